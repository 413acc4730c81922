-- `matrix_columns::build`. The loop's invariant: the rows before row `i` are added to the cleared cells. Assumes nothing.
use mathlib.Core.Path.{◌≡◌}
use Rattle.matrix.specs.Paper.Shapes.{matrix_of}
use Rattle.matrix_columns.specs.Filling.{rows_put}
use Rattle.matrix_columns.proofs.build.Given as goal

abbrev pub invariant-loop-i : goal.invariant-loop-i
invariant-loop-i l = l.columns ≡ rows_put (matrix_of l.shape l.list) l.i l.initial.columns
