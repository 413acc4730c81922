-- `matrix_order::too_large` meets its contract. The loop's invariant: `count` is the number of entries passed that are not below n. Assumes nothing.
use mathlib.Core.Path.{◌≡◌}
use Rattle.counting.specs.Paper.Sum.{sum_below}
use Rattle.matrix_order.specs.Order.{not_below}
use Rattle.matrix_order.proofs.too_large.Given as goal

abbrev pub invariant-loop-column : goal.invariant-loop-column
invariant-loop-column l = l.count ≡ sum_below l.column-index (not_below l.list l.n)
