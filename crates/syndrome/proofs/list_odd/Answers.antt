use mathlib.Core.Path.{refl}
use native.Mathlib.Omega.{arith}
use Rattle.counting.specs.Places.{at}
use Rattle.syndrome.proofs.Lists.{listed-none, listed-step}
use Rattle.syndrome.proofs.list_odd.Goals as goal

pub loop-i-init : goal.loop-i-init
loop-i-init c = listed-none (at c.args.parity.now) c.args.rows.now (omega arith)

pub loop-i-preserved : goal.loop-i-preserved
loop-i-preserved c =
    let o = c.loop-i in
    listed-step (at c.args.parity.now) o.i c.args.rows.now o.rows o.t o.invariant (omega arith) _ refl (c.requires.1 o.i (omega arith))
