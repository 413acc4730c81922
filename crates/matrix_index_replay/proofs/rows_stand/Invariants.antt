-- `matrix_index_replay::rows_stand`. The loop's invariant: the rows before row `i` stand at their places, and the cursors stand behind them.
use Prim.Native.Nat.{ℕ, ◌<◌}
use Rattle.counting.specs.Places.{at}
use Rattle.matrix.specs.Paper.Shapes.{matrix_of}
use Rattle.matrix_index.specs.Filling.{Cursors}
use Rattle.matrix_index_replay.specs.Replay.{RowStands}
use Rattle.matrix_index_replay.proofs.rows_stand.Given as goal

abbrev pub invariant-loop-i : goal.invariant-loop-i
invariant-loop-i l =
    Cursors (matrix_of l.shape l.list) (at l.index) l.i 0 l.cursors × ((r : ℕ) → r < l.i → RowStands (matrix_of l.shape l.list) l.index r)
