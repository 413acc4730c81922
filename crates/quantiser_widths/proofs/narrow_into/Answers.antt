use mathlib.Core.Path.{◌≡◌, sym, ap, ◌∙◌}
use mathlib.Core.List.{List}
use Prim.Native.Nat.{◌≤◌}
use native.Mathlib.Nat.{le_of_eq}
use native.Mathlib.Omega.{arith}
use borrow.Author.Rules.{rules}
use lib.IntN.{ℤ, pos, nat_abs}
use lib.ListN.{length, get_or}
use Rattle.counting.specs.Paper.Lists.{over}
use Rattle.counting.proofs.Writes.{listed-get_or, over_none, over-long, over-step}
use Rattle.quantiser_widths.specs.Paper.Widths.{most_old}
use Rattle.quantiser_widths.proofs.Verdicts.{all-within}
use Rattle.quantiser_widths.proofs.Signs.{narrow-fits, narrow_back}
use Rattle.quantiser_widths.proofs.narrow_into.Goals as goal

pub loop-j-init : goal.loop-j-init
loop-j-init c = sym (over_none _ _)

pub overflow_cast-old : goal.overflow_cast-old
overflow_cast-old c =
    let within : nat_abs (get_or c.args.levels.now c.loop-j.j (pos 0)) ≤ most_old = let l = c in
    all-within l.args.levels.now (le_of_eq (sym l.requires.1)) l.loop-j.j (omega arith) in
    search (rules, narrow-fits, within)

pub bounds-old-j : goal.bounds-old-j
bounds-old-j c =
    let long : length c.loop-j.old ≡ length c.args.old.now = over-long c.loop-j.j (λ i. get_or c.args.levels.now i (pos 0)) c.args.old.now c.loop-j.old c.loop-j.invariant
    (omega (arith, c.requires.0)) in
    let l = c in
    omega (arith, long, l.requires.0)

pub loop-j-preserved : goal.loop-j-preserved
loop-j-preserved c =
    let within : nat_abs (get_or c.args.levels.now c.loop-j.j (pos 0)) ≤ most_old = let l = c in
    all-within l.args.levels.now (le_of_eq (sym l.requires.1)) l.loop-j.j (omega arith) in
    let l = c in
    let a = l.args in
    over-step l.loop-j.j (λ i. get_or a.levels.now i (pos 0)) a.old.now l.loop-j.old l.loop-j.invariant _ (omega (arith, l.requires.0))
    (narrow_back _ (search rules) (within))

pub shape_of-old : goal.shape_of-old
shape_of-old c =
    let long : length c.loop-j.old ≡ length c.args.old.now = over-long c.loop-j.j (λ i. get_or c.args.levels.now i (pos 0)) c.args.old.now c.loop-j.old c.loop-j.invariant
    (omega (arith, c.requires.0)) in
    long

pub returns : goal.returns
returns c =
    let l = c in
    let a = l.args in
    let n : l.loop-j.j ≡ length a.levels.now = omega arith in
    (rw n at l.loop-j.invariant) ∙ ap (λ (x : List ℤ). over x a.old.now) (listed-get_or a.levels.now (pos 0))
