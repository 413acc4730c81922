-- `matrix_meeting::rows_twice` meets its contract. The loop's invariant: the bits set are those for the part's rows passed, and no row
-- passed has two columns in common with an earlier row of the part. Assumes nothing.
use mathlib.Core.Path.{◌≡◌}
use mathlib.Core.Bool.{false}
use Prim.Native.Nat.{ℕ, ◌<◌}
use lib.ListN.{length}
use Rattle.matrix.specs.Paper.Shapes.{matrix_of}
use Rattle.matrix_meeting.specs.Marks.{MarksOf}
use Rattle.matrix_meeting.specs.Overlaps.{meets_part}
use Rattle.matrix_meeting.proofs.rows_twice.Given as goal

abbrev pub invariant-loop-i : goal.invariant-loop-i
invariant-loop-i l = record {
  long : length l.seen ≡ length l.initial.seen;
  marks : MarksOf (matrix_of l.shape l.list) l.part l.i l.seen;
  none : (x : ℕ) → x < l.i → meets_part (matrix_of l.shape l.list) l.part x ≡ false;
}
