use Prim.Native.Nat.{◌+◌, ◌*◌}
use mathlib.Core.Path.{◌≡◌}
use native.Mathlib.Omega.{arith}
use Rattle.counting.specs.Places.{at}
use Rattle.syndrome_update.specs.Parities.{differing}
use Rattle.syndrome_update.proofs.Turns.{bits-fewer}
use Rattle.syndrome_update.proofs.Flips.{flips-none, flips-join}
use Rattle.syndrome_update.proofs.list_flips.Goals as goal

pub loop-q-init : goal.loop-q-init
loop-q-init c = flips-none (differing (at c.args.before.now) (at c.args.bits.now)) c.args.places.now (omega arith)

pub list_eight-t-requires : goal.list_eight-t-requires
list_eight-t-requires c =
    let a = c.args in
    let next = 8 * c.loop-q.q + 8 in (
      omega arith,
      bits-fewer a.n next a.before.now c.requires.1 (omega arith),
      bits-fewer a.n next a.bits.now c.requires.2 (omega arith),
      c.loop-q.invariant.places,
    )

pub loop-q-preserved : goal.loop-q-preserved
loop-q-preserved c =
    let a = c.args in
    let o = c.loop-q in
    let next : 8 * (o.q + 1) ≡ 8 * o.q + 8 = omega arith in
    rw next
    (flips-join (differing (at a.before.now) (at a.bits.now)) (8 * o.q) (8 * o.q + 8) a.places.now o.places _ o.t _ (omega arith) o.invariant
    c.list_eight-t.ensures)

pub returns : goal.returns
returns c =
    let a = c.args in
    let o = c.loop-q in
    flips-join (differing (at a.before.now) (at a.bits.now)) (8 * o.q) a.n a.places.now o.places _ o.t _ (omega arith) o.invariant
    c.list_part.ensures
