use native.Mathlib.Omega.{arith}
use Rattle.counting.specs.Places.{at}
use Rattle.syndrome_update.specs.Parities.{differing}
use Rattle.syndrome_update.proofs.Flips.{flips-step}
use Rattle.syndrome_update.proofs.Turns.{difference-is, difference-bit, bit_below}
use Rattle.syndrome_update.proofs.list_part.Goals as goal

pub loop-j-preserved : goal.loop-j-preserved
loop-j-preserved c =
    let a = c.args in
    let o = c.loop-j in
    let e = difference-is (at a.before.now) (at a.bits.now) o.j (bit_below a.to a.before.now o.j c.requires.2 (omega arith))
    (bit_below a.to a.bits.now o.j c.requires.3 (omega arith)) in
    flips-step (differing (at a.before.now) (at a.bits.now)) o.j a.places.now o.places o.t o.invariant (omega arith) _ e
    (omega (arith, e, difference-bit (at a.before.now) (at a.bits.now) o.j))
