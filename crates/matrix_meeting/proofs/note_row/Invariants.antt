-- `matrix_meeting::note_row` meets its contract. The loop's invariant: the bits for the columns passed are set, and no others. Assumes nothing.
use mathlib.Core.Path.{◌≡◌}
use lib.ListN.{length}
use Rattle.matrix.specs.Paper.Shapes.{matrix_of}
use Rattle.matrix_meeting.specs.Marks.{row_marked}
use Rattle.matrix_meeting.proofs.note_row.Given as goal

abbrev pub invariant-loop-k : goal.invariant-loop-k
invariant-loop-k l = record {
  long : length l.seen ≡ length l.initial.seen;
  noted : l.seen ≡ row_marked (matrix_of l.shape l.list) l.i l.k l.initial.seen;
}
