use Prim.Native.Nat.{◌<◌}
use native.Mathlib.Omega.{arith}
use Rattle.counting.specs.Places.{at}
use Rattle.iterative_levels.proofs.Passes.{moved_none, moved-step}
use Rattle.iterative_levels.proofs.update.Goals as goal

pub loop-j-init : goal.loop-j-init
loop-j-init c = moved_none _ _ _ _ _ _ c.requires.1 c.requires.2

pub next_level-x-requires : goal.next_level-x-requires
next_level-x-requires c =
    let l = c in
    let p = l.requires.0 in
    let h : l.loop-j.j < l.args.n = omega arith in
    (omega (arith, l.loop-j.invariant.rest_levels l.loop-j.j (omega arith), p.within l.loop-j.j h), p.levels)

pub loop-j-preserved : goal.loop-j-preserved
loop-j-preserved c =
    let l = c in
    let a = l.args in
    moved-step a.votes.now (at a.weights.now) l.loop-j.j a.middle a.ceiling a.bits.now a.levels.now l.loop-j.bits
    l.loop-j.levels l.loop-j.invariant
    (omega (arith, l.requires.0.columns)) c.next_level-x.result c.is_above.result c.next_level-x.ensures
    c.is_above.ensures
