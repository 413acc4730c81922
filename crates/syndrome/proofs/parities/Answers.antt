use mathlib.Core.Path.{sym}
use native.Mathlib.Omega.{arith}
use Rattle.counting.specs.Places.{at}
use Rattle.counting.proofs.Writes.{over_none, over-step}
use Rattle.syndrome.specs.Places.{row_fails}
use Rattle.syndrome.proofs.Parity.{row_is}
use Rattle.syndrome.proofs.parities.Goals as goal

pub loop-i-init : goal.loop-i-init
loop-i-init c = sym (over_none _ _)

pub loop-i-preserved : goal.loop-i-preserved
loop-i-preserved c =
    let a = c.args in
    let o = c.loop-i in
    let f = row_fails a.list.now a.rho (at a.bits.now) in
    over-step o.i f a.parity.now o.parity o.invariant _ (omega arith) (row_is a.list.now a.rho (at a.bits.now) o.i _ c.row_parity.ensures)
