-- `matrix_order::row_descents` meets its contract. The loop's invariant: `count` is the number of rows before `i` that begin with a descent.
-- Assumes nothing.
use mathlib.Core.Path.{◌≡◌}
use Rattle.counting.specs.Paper.Sum.{sum_below}
use Rattle.matrix_order.specs.Order.{row_descent}
use Rattle.matrix_order.proofs.row_descents.Given as goal

abbrev pub invariant-loop-i : goal.invariant-loop-i
invariant-loop-i l = l.count ≡ sum_below l.i (row_descent l.list l.rho)
