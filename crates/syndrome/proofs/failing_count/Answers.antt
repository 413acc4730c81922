use mathlib.Core.Path.{◌≡◌, refl, ap, ◌∙◌}
use native.Mathlib.Omega.{arith}
use Rattle.counting.specs.Paper.Sum.{sum_below}
use Rattle.counting.specs.Places.{at}
use Rattle.matrix.specs.Paper.Code.{failing}
use Rattle.matrix.specs.Paper.Shapes.{matrix_of}
use Rattle.syndrome.proofs.Parity.{checks, row_is, row-fails, count-step, count_most}
use Rattle.syndrome.proofs.failing_count.Goals as goal

pub loop-i-init : goal.loop-i-init
unfolding sum_below
loop-i-init c = refl

pub row_parity-requires : goal.row_parity-requires
row_parity-requires c =
    let a = c.args in
    let p = checks (matrix_of a.shape a.list.now) c.requires.0 (at a.bits.now) c.requires.1 in
    (p.part c.loop-i.i (omega arith), p.bits c.loop-i.i (omega arith))

pub overflow_add-count : goal.overflow_add-count
overflow_add-count c =
    let a = c.args in
    omega (arith, c.row_parity.ensures, c.requires.0.sizes.m_most, count_most a.list.now a.shape.rho (at a.bits.now) c.loop-i.i)

pub loop-i-preserved : goal.loop-i-preserved
loop-i-preserved c =
    let a = c.args in
    let o = c.loop-i in
    let z = at a.bits.now in
    count-step a.list.now a.shape.rho z o.i o.count c.row_parity.result o.invariant
    (row_is a.list.now a.shape.rho z o.i c.row_parity.result c.row_parity.ensures)

pub returns : goal.returns
unfolding failing
returns c =
    let a = c.args in
    let e : c.loop-i.i ≡ a.shape.m = omega arith in
    rw e at c.loop-i.invariant ∙ ap (sum_below a.shape.m) (row-fails (matrix_of a.shape a.list.now) (at a.bits.now))
