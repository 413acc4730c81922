use mathlib.Core.Path.{◌≡◌, sym, ap, ◌∙◌}
use mathlib.Core.List.{List}
use native.Mathlib.Omega.{arith}
use borrow.Author.Rules.{rules}
use lib.IntN.{ℤ, pos}
use lib.ListN.{length, get_or}
use Rattle.counting.specs.Paper.Lists.{over}
use Rattle.counting.proofs.Writes.{listed-get_or, over_none, over-long, over-step}
use Rattle.quantiser_widths.proofs.Signs.{wide_back}
use Rattle.quantiser_widths.proofs.widen_into.Goals as goal

pub loop-j-init : goal.loop-j-init
loop-j-init c = sym (over_none _ _)

pub bounds-levels-j : goal.bounds-levels-j
bounds-levels-j c =
    let long : length c.loop-j.levels ≡ length c.args.levels.now = over-long c.loop-j.j (λ i. get_or c.args.old.now i (pos 0)) c.args.levels.now c.loop-j.levels c.loop-j.invariant
    (omega (arith, c.requires)) in
    let l = c in
    omega (arith, long, l.requires)

pub loop-j-preserved : goal.loop-j-preserved
loop-j-preserved c =
    let l = c in
    let a = l.args in
    over-step l.loop-j.j (λ i. get_or a.old.now i (pos 0)) a.levels.now l.loop-j.levels l.loop-j.invariant _ (omega (arith, l.requires)) (rw c.from.ensures (wide_back _ (search rules)))

pub shape_of-levels : goal.shape_of-levels
shape_of-levels c =
    let long : length c.loop-j.levels ≡ length c.args.levels.now = over-long c.loop-j.j (λ i. get_or c.args.old.now i (pos 0)) c.args.levels.now c.loop-j.levels c.loop-j.invariant
    (omega (arith, c.requires)) in
    long

pub returns : goal.returns
returns c =
    let l = c in
    let a = l.args in
    let n : l.loop-j.j ≡ length a.old.now = omega arith in
    (rw n at l.loop-j.invariant) ∙ ap (λ (x : List ℤ). over x a.levels.now) (listed-get_or a.old.now (pos 0))
