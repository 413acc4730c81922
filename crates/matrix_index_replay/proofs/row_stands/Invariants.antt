-- `matrix_index_replay::row_stands`. The loop's invariant: the row stands at the places of its first `k` entries, whose cursors have moved on.
use Prim.Native.Nat.{ℕ, ◌<◌}
use Rattle.counting.specs.Places.{at}
use Rattle.matrix.specs.Paper.Code.{matrix}
use Rattle.matrix_index.specs.Filling.{Passed}
use Rattle.matrix_index_replay.specs.Replay.{Stands}
use Rattle.matrix_index_replay.proofs.row_stands.Given as goal

abbrev pub invariant-loop-k : goal.invariant-loop-k
invariant-loop-k l =
    let H = matrix l.fn.shape.n l.fn.shape.m l.rho l.fn.shape.gamma l.list in
    Passed H (at l.index) l.i l.k l.initial.cursors l.cursors × ((q : ℕ) → q < l.k → Stands H l.index l.i q)
