-- `matrix_order::descents` meets its contract. The loop's invariant: `count` is the number of descents before `p`. Assumes nothing.
use mathlib.Core.Path.{◌≡◌}
use Rattle.counting.specs.Paper.Sum.{sum_below}
use Rattle.matrix_order.specs.Order.{descent}
use Rattle.matrix_order.proofs.descents.Given as goal

abbrev pub invariant-loop-p : goal.invariant-loop-p
invariant-loop-p l = l.count ≡ sum_below l.p (descent l.list)
