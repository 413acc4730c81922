use mathlib.Core.Path.{refl}
use Prim.Native.Nat.{◌+◌, ◌-◌}
use native.Mathlib.Omega.{arith}
use Rattle.counting.specs.Paper.Sum.{sum_below}
use Rattle.counting.specs.Places.{at}
use Rattle.syndrome.specs.Places.{ones_at}
use Rattle.syndrome.proofs.Parity.{part-at, parity-step}
use Rattle.syndrome.proofs.row_parity.Goals as goal

pub loop-j-init : goal.loop-j-init
unfolding ones_at sum_below
loop-j-init c = refl

pub loop-j-preserved : goal.loop-j-preserved
loop-j-preserved c =
    let o = c.loop-j in
    let a = c.args in
    let e = part-at a.list.now a.from (a.from + a.count - a.from) o.j-index (omega arith) in
    rw e (parity-step a.list.now a.from o.j-index (at a.bits.now) o.x (c.requires.1 o.j-index (omega arith)) o.invariant)
