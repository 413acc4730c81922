use native.Mathlib.Nat.{le_antisymm}
use native.Mathlib.Omega.{arith}
use Rattle.quantiser_guess.proofs.Guesses.{laid_none, laid-step}
use Rattle.quantiser_guess.proofs.place_all.Goals as goal

pub loop-j-init : goal.loop-j-init
loop-j-init c = (omega arith, laid_none _ _ _ _ _ _)

pub kept_one-requires : goal.kept_one-requires
kept_one-requires c =
    let l = c in
    let p = l.requires.2 in
    (p.largest, p.within l.loop-j.j (omega arith))

pub loop-j-preserved : goal.loop-j-preserved
loop-j-preserved c =
    let l = c in
    let s = l in
    let a = s.args in
    let n = c.number32-u in (
      omega arith,
      laid-step l.loop-j.j a.middle a.bytes.now a.guess.now a.bits.now l.loop-j.bits a.kept.now l.loop-j.kept a.marks.now
          l.loop-j.marks l.loop-j.invariant.1 (omega arith) (omega arith) (omega arith) n.result c.bit_one-z.result
          c.kept_one.result c.mark_one.result n.ensures c.bit_one-z.ensures c.kept_one.ensures
          c.mark_one.ensures,
    )

pub returns : goal.returns
returns c = rw (le_antisymm c.loop-j.invariant.0 (omega arith)) at c.loop-j.invariant.1
