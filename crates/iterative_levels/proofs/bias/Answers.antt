use mathlib.Core.Path.{◌≡◌, ap, ◌∙◌}
use Prim.Native.Nat.{◌<◌}
use native.Mathlib.Omega.{arith}
use lib.IntN.{pos}
use lib.ListN.{get_or}
use mir.Val.{to_z, of_z}
use mir.ValLaws.{to_z-of_z}
use Rattle.iterative_levels.specs.Levels.{biased}
use Rattle.quantiser_levels.proofs.Signs.{cell}
use Rattle.iterative_levels.proofs.Signs.{level-cell}
use Rattle.iterative_levels.proofs.Passes.{biased-none, biased-step}
use Rattle.iterative_levels.proofs.bias.Goals as goal

pub loop-j-init : goal.loop-j-init
loop-j-init c = biased-none _ _ _ c.requires.1

pub bias_one-requires : goal.bias_one-requires
bias_one-requires c =
    let cell-back : c.loop-j.j < c.args.n → to_z cell (of_z cell (get_or c.args.levels.now c.loop-j.j (pos 0))) ≡ get_or c.args.levels.now c.loop-j.j (pos 0) = λ h. let p = c.requires.0 in
    let r = get_or c.args.levels.now c.loop-j.j (pos 0) in
    to_z-of_z cell r (level-cell r c.args.middle p.largest (p.within c.loop-j.j h)) in
    let l = c in
    let p = c.requires.0 in
    let w = p.within l.loop-j.j (omega arith) in
    (p.largest, rw (cell-back (omega arith)) w)

pub loop-j-preserved : goal.loop-j-preserved
loop-j-preserved c =
    let cell-back : c.loop-j.j < c.args.n → to_z cell (of_z cell (get_or c.args.levels.now c.loop-j.j (pos 0))) ≡ get_or c.args.levels.now c.loop-j.j (pos 0) = λ h. let p = c.requires.0 in
    let r = get_or c.args.levels.now c.loop-j.j (pos 0) in
    to_z-of_z cell r (level-cell r c.args.middle p.largest (p.within c.loop-j.j h)) in
    let l = c in
    let a = c.args in
    biased-step l.loop-j.j a.middle a.levels.now a.kept.now l.loop-j.kept l.loop-j.invariant
    (omega (arith, c.requires.0.columns)) c.bias_one.result
    (c.bias_one.ensures ∙ ap (biased a.middle) (cell-back (omega arith)))
