-- `matrix_index::place_row`. The loop's invariant: the row is written at the places of its first `k` entries, whose cursors have moved on.
use mathlib.Core.Path.{◌≡◌}
use Rattle.matrix.specs.Paper.Shapes.{matrix_of}
use Rattle.matrix_index.specs.Paper.Index.{column_start}
use Rattle.matrix_index.specs.Filling.{Passed, row_put}
use Rattle.matrix_index.proofs.place_row.Given as goal

abbrev pub invariant-loop-k : goal.invariant-loop-k
invariant-loop-k l =
    Passed (matrix_of l.fn.shape l.list) (column_start (matrix_of l.fn.shape l.list)) l.i l.k l.initial.cursors l.cursors × (l.index ≡ row_put (matrix_of l.fn.shape l.list) l.i l.k l.initial.index)
