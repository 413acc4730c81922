-- `matrix_overlap::marks_of` meets its contract. The loop's invariant: the marks count the columns passed. Assumes nothing.
use Rattle.matrix.specs.Paper.Code.{entry}
use Rattle.matrix.specs.Paper.Shapes.{matrix_of}
use Rattle.matrix.specs.Tallies.{Tally}
use Rattle.matrix_overlap.proofs.marks_of.Given as goal

abbrev pub invariant-loop-k : goal.invariant-loop-k
invariant-loop-k l = Tally (entry (matrix_of l.shape l.list) l.i) l.k l.marks
