-- `matrix_meeting::pair_twice` meets its contract.
-- The loop's invariant: no row of the parts passed has two columns in common with a later row. Assumes nothing.
use mathlib.Core.Path.{◌≡◌}
use mathlib.Core.Bool.{false}
use Prim.Native.Nat.{ℕ, ◌<◌}
use Rattle.matrix.specs.Paper.Shapes.{matrix_of}
use Rattle.matrix_meeting.specs.Overlaps.{part_overlaps}
use Rattle.matrix_meeting.proofs.pair_twice.Given as goal

abbrev pub invariant-loop-part : goal.invariant-loop-part
invariant-loop-part l = (p : ℕ) → p < l.part → part_overlaps (matrix_of l.shape l.list) p ≡ false
