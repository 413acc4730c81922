-- `program_lines::lines` meets its contract. The invariant: the lines of the blocks before number `next` are put, and the iterator has what follows.
-- Assumes nothing.
use mathlib.Core.Path.{◌≡◌}
use Prim.Native.Nat.{◌*◌}
use Rattle.std.specs.Slice.Iter.{chunks_exact_rest, chunks_exact_size}
use Rattle.matrix.specs.Paper.Shapes.{matrix_of}
use Rattle.quantiser_settings.specs.Paper.Settings.{setting_of}
use Rattle.program_lines.proofs.BlockLines.{Lined}
use Rattle.program_lines.proofs.lines.Given as goal

abbrev pub invariant-loop-samples : goal.invariant-loop-samples
invariant-loop-samples l = (chunks_exact_size l.samples-iterator ≡ 4 * l.shape.n)
    × Lined (matrix_of l.shape l.list) (setting_of l.setting) l.number l.bytes l.at l.initial.out l.next (chunks_exact_rest l.samples-iterator) l.out l.end
