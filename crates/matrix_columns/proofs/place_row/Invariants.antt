-- `matrix_columns::place_row`. The loop's invariant: the row is added at its first `k` entries. Assumes nothing.
use mathlib.Core.Path.{◌≡◌}
use Rattle.matrix.specs.Paper.Shapes.{matrix_of}
use Rattle.matrix_columns.specs.Filling.{row_put}
use Rattle.matrix_columns.proofs.place_row.Given as goal

abbrev pub invariant-loop-j : goal.invariant-loop-j
invariant-loop-j l = l.columns ≡ row_put (matrix_of l.fn.shape l.list) l.i l.j-index l.initial.columns
