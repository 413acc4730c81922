use mathlib.Core.Path.{refl}
use native.Mathlib.Omega.{arith}
use Rattle.matrix_order.specs.Order.{descent}
use Rattle.matrix_order.proofs.Order.{not_above, byte-bit, count-step, count_most, descent-le, first-counts}
use Rattle.matrix_order.proofs.descents.Goals as goal

pub loop-p-init : goal.loop-p-init
loop-p-init c = first-counts c.args.list.now

pub overflow_add-count : goal.overflow_add-count
overflow_add-count c =
    let l = c.args.list.now in
    let o = c.loop-p in
    simp byte-bit (omega (arith, count_most (descent l) (descent-le l) o.p))

pub loop-p-preserved : goal.loop-p-preserved
unfolding descent
loop-p-preserved c =
    let l = c.args.list.now in
    let o = c.loop-p in
    count-step (descent l) (not_above l o.p) o.p o.count refl o.invariant
