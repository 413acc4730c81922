-- Taking back is accepted exactly where what it asks holds, and both ways and back give the same numbers.
--   narrow_within                      == at most 65,536 levels within -127 to 127 are taken back where there is room
--   accepted-narrow, narrow-accepted   == what taking back asks holds exactly where it is accepted
--   over-and-back                      == what was brought over is taken back as the same numbers
--   back-and-over                      == what was taken back is brought over as the same numbers
-- Assumes nothing.
use mathlib.Core.Path.{◌≡◌, ap, subst, ◌∙◌}
use mathlib.Core.Bool.{◌||◌}
use mathlib.Core.List.{List}
use Prim.Native.Nat.{ℕ, ◌≤◌, ◌<◌}
use borrow.Author.Tests.{ltb-false}
use lib.Dec.{ltb}
use lib.IntN.{ℤ, pos, nat_abs}
use lib.ListN.{length, get_or, take}
use Rattle.counting.specs.Paper.Lists.{over}
use Rattle.counting.proofs.Searches.{or_left, or_right}
use Rattle.counting.proofs.Writes.{take-over}
use Rattle.answers.specs.Paper.Answers.{Verdict, accepted, refuse_at, written}
use Rattle.answers.proofs.Verdicts.{passed}
use Rattle.quantiser_widths.specs.Paper.Widths.{Widened, most_old, first_too_far, narrow_verdict, Narrowed}
use Rattle.quantiser_widths.specs.Paper.Claims.{Narrowable, OverAndBack, BackAndOver}
use Rattle.quantiser_widths.proofs.Verdicts.{widen-accepted, all-within, within_all, narrow-passed}

-- ---- accepted exactly then

-- at most 65,536 levels within -127 to 127 are taken back where there is room
pub narrow_within : (ls : List ℤ) (room : ℕ) → ((j : ℕ) → j < length ls → nat_abs (get_or ls j (pos 0)) ≤ most_old) → length ls ≤ 65536 → length ls ≤ room
    → narrow_verdict ls room ≡ accepted
narrow_within ls room h few fit = narrow-passed ls room few fit (within_all ls h)

-- what taking back asks holds exactly where it is accepted
pub accepted-narrow : (ls : List ℤ) (room : ℕ) → narrow_verdict ls room ≡ accepted → Narrowable ls room
unfolding narrow_verdict
accepted-narrow ls room e =
    let long = ltb 65536 (length ls) in
    let short = ltb room (length ls) in
    let p = passed (long || short) 7 0 (refuse_at 13 (first_too_far ls) (length ls) accepted) e in
    let q = passed (ltb (first_too_far ls) (length ls)) 13 (first_too_far ls) accepted p.1 in
    record {
      few = ltb-false 65536 (length ls) (or_left long short p.0);
      fits = ltb-false room (length ls) (or_right long short p.0);
      within = all-within ls (ltb-false (first_too_far ls) (length ls) q.0);
    }

pub narrow-accepted : (ls : List ℤ) (room : ℕ) → Narrowable ls room → narrow_verdict ls room ≡ accepted
narrow-accepted ls room n = narrow_within ls room n.within n.few n.fits

-- ---- what an accepted call leaves, and its front

wrote : (new old : List ℤ) {v : Verdict} {old' : List ℤ} → v ≡ accepted → old' ≡ written v new old → old' ≡ over new old
wrote new old e q = q ∙ ap (λ (v : Verdict). written v new old) e

front : (new old : List ℤ) {old' : List ℤ} → old' ≡ over new old → take (length new) old' ≡ new
front new old e = ap (take (length new)) e ∙ take-over new old

widened : {old ls ls' : List ℤ} {v : Verdict} → length old ≤ length ls → Widened old v ls ls' → (v ≡ accepted) × (ls' ≡ over old ls)
widened {old} {ls} h w =
    let e = widen-accepted old (length ls) h in
    (w.answer ∙ e, wrote old ls e w.levels)

narrowed : {ls old old' : List ℤ} {v : Verdict} → narrow_verdict ls (length old) ≡ accepted → Narrowed ls v old old' → (v ≡ accepted) × (old' ≡ over ls old)
narrowed {ls} {old} e n = (n.answer ∙ e, wrote ls old e n.levels)

-- ---- both ways and back

-- what was brought over is taken back as the same numbers
pub over-and-back : OverAndBack
over-and-back old ls ls' back back' v u a room w n =
    let over' = widened room w in
    let same : take (length old) ls' ≡ old = front old ls over'.1 in
    let n' = narrowed (narrow-accepted old (length back) a) (subst (λ (l : List ℤ). Narrowed l u back back') same n) in
    (over'.0, n'.0, n'.1)

-- what was taken back is brought over as the same numbers
pub back-and-over : BackAndOver
back-and-over ls old old' back back' v u e room n w =
    let back'' = narrowed e n in
    let same : take (length ls) old' ≡ ls = front ls old back''.1 in
    widened room (subst (λ (l : List ℤ). Widened l u back back') same w)
