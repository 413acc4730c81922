-- `sheet_store::put_row_shifts` meets its contract. The loop's invariant: the first k shifts of the block row are written. Assumes nothing.
use mathlib.Core.Path.{◌≡◌}
use lib.Seq.{sets}
use Rattle.counting.specs.Paper.Joined.{joined}
use Rattle.matrix.specs.Paper.Shapes.{matrix_of}
use Rattle.sheet_store.specs.Storing.{shift_bytes}
use Rattle.sheet_store.proofs.put_row_shifts.Given as goal

abbrev pub invariant-loop-k : goal.invariant-loop-k
invariant-loop-k l = l.sheet ≡ sets l.initial.sheet l.p (joined l.k (shift_bytes (matrix_of l.shape l.list) l.z l.r))
