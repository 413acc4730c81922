-- `matrix_index::build`. The loop's invariant: the rows before row i are written over the starting places, and the cursors stand behind them.
use mathlib.Core.Path.{◌≡◌}
use Rattle.matrix.specs.Paper.Shapes.{matrix_of}
use Rattle.matrix_index.specs.Paper.Index.{column_start}
use Rattle.matrix_index.specs.Filling.{Cursors, rows_put}
use Rattle.matrix_index.proofs.build.Given as goal

abbrev pub invariant-loop-i : goal.invariant-loop-i
invariant-loop-i l =
    Cursors (matrix_of l.shape l.list) (column_start (matrix_of l.shape l.list)) l.i 0 l.cursors × (l.index ≡ rows_put (matrix_of l.shape l.list) l.i l.initial.index)
