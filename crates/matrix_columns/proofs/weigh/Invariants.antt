-- `matrix_columns::weigh`. The loop's invariant: the first `j` weights are written over the old cells. Assumes nothing.
use Prim.Native.Nat.{◌+◌, ◌*◌}
use mathlib.Core.Path.{◌≡◌}
use Rattle.counting.specs.Paper.Lists.{listed, over}
use Rattle.counting.specs.Places.{at}
use Rattle.matrix_columns.proofs.weigh.Given as goal

abbrev pub invariant-loop-j : goal.invariant-loop-j
invariant-loop-j l = l.weights ≡ over (listed l.j (λ q. at l.columns (16 * l.n + q))) l.initial.weights
