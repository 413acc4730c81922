use mathlib.Core.Path.{refl, sym}
use native.Mathlib.Omega.{arith}
use lib.Dec.{leb}
use lib.ListN.{get_or}
use Rattle.counting.proofs.Loops.{sum_start}
use Rattle.matrix_order.specs.Order.{not_below}
use Rattle.matrix_order.proofs.Order.{byte-bit, count-step, count_most, not-below-le}
use Rattle.matrix_order.proofs.too_large.Goals as goal

pub loop-column-init : goal.loop-column-init
loop-column-init c = sym (sum_start _)

pub overflow_add-count : goal.overflow_add-count
overflow_add-count c =
    let a = c.args in
    let o = c.loop-column in
    simp byte-bit (omega (arith, count_most (not_below a.list.now a.n) (not-below-le a.list.now a.n) o.column-index))

pub loop-column-preserved : goal.loop-column-preserved
unfolding not_below
loop-column-preserved c =
    let a = c.args in
    let o = c.loop-column in
    count-step (not_below a.list.now a.n) (leb a.n (get_or a.list.now o.column-index 0)) o.column-index o.count refl o.invariant
