use mathlib.Core.Path.{refl}
use Prim.Native.Nat.{◌*◌}
use native.Mathlib.Omega.{arith}
use Rattle.matrix_order.specs.Order.{descent, row_descent}
use Rattle.matrix_order.proofs.Order.{not_above, byte-bit, count-step, count_most, row-descent-le, first-row-counts, rows-small}
use Rattle.matrix_order.proofs.row_descents.Goals as goal

pub loop-i-init : goal.loop-i-init
loop-i-init c = first-row-counts c.args.list.now c.args.rho

pub overflow_add-count : goal.overflow_add-count
overflow_add-count c =
    let s = c in
    let l = s.args.list.now in
    let rho = s.args.rho in
    let o = c.loop-i in
    simp byte-bit (omega (arith, count_most (row_descent l rho) (row-descent-le l rho) o.i, rows-small s.requires))

pub loop-i-preserved : goal.loop-i-preserved
unfolding row_descent descent
loop-i-preserved c =
    let a = c.args in
    let l = a.list.now in
    let o = c.loop-i in
    count-step (row_descent l a.rho) (not_above l (o.i * a.rho)) o.i o.count refl o.invariant
