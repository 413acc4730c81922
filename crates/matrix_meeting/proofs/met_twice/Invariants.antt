-- `matrix_meeting::met_twice` meets its contract. The loop's invariant: of the columns passed, each of the four words is met. Assumes nothing.
use Rattle.matrix.specs.Paper.Shapes.{matrix_of}
use Rattle.matrix_meeting.proofs.Gone.{Gone, word_at}
use Rattle.matrix_meeting.proofs.met_twice.Given as goal

abbrev pub invariant-loop-k : goal.invariant-loop-k
invariant-loop-k l =
    let f = word_at (matrix_of l.shape l.list) l.i l.seen in
    Gone (f 0) l.k l.a × Gone (f 1) l.k l.b × Gone (f 2) l.k l.c × Gone (f 3) l.k l.d
