-- `matrix_rows::place_row`. The loop's invariant: the first `k` entries of the row are added to its set. Assumes nothing.
use mathlib.Core.Path.{◌≡◌}
use Rattle.matrix.specs.Paper.Shapes.{matrix_of}
use Rattle.matrix_rows.specs.Filling.{row_put}
use Rattle.matrix_rows.proofs.place_row.Given as goal

abbrev pub invariant-loop-j : goal.invariant-loop-j
invariant-loop-j l = l.rows ≡ row_put (matrix_of l.fn.shape l.list) l.i l.j-index l.initial.rows
