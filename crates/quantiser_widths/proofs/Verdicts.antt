-- What bringing over and taking back say, test by test, and what they leave.
--   widen-short, widen-accepted           == refusal 7 where there is no room, else nothing is refused
--   widened-refused, widened-accepted     == what a refused and an accepted call leave
--   all-within, within_all                == no level is too far exactly where each lies within -127 to 127
--   narrow-many, narrow_short             == refusal 7: more than 65,536 levels; no room
--   narrow-level                          == else refusal 13 at the first level that does not lie within -127 to 127
--   narrow-passed                         == else nothing is refused
--   narrowed-refused, narrowed-accepted   == what a refused and an accepted call leave
-- Assumes nothing.
use mathlib.Core.Path.{◌≡◌, sym, ap, ◌∙◌}
use mathlib.Core.Bool.{or-true}
use mathlib.Core.List.{List}
use Prim.Native.Nat.{ℕ, ◌≤◌, ◌<◌}
use native.Mathlib.Nat.{le_of_eq}
use borrow.Author.Tests.{ltb-false, lt-ltb, le-ltb}
use lib.Dec.{ltb}
use lib.IntN.{ℤ, pos, nat_abs}
use lib.ListN.{length, get_or}
use Rattle.counting.specs.Paper.Lists.{over}
use Rattle.counting.proofs.Searches.{first-none, first-clear}
use Rattle.answers.specs.Paper.Answers.{Verdict, accepted, refused, written}
use Rattle.quantiser_widths.specs.Paper.Widths.{widen_verdict, Widened, most_old, too_far, first_too_far, narrow_verdict, Narrowed}

-- ---- brought over

module _ (old : List ℤ) (room : ℕ) where
  -- refusal 7 where there is no room
  pub widen-short : room < length old → widen_verdict old room ≡ refused 7 0
  unfolding widen_verdict
  widen-short h = rw (lt-ltb room (length old) h)

  -- else nothing is refused
  pub widen-accepted : length old ≤ room → widen_verdict old room ≡ accepted
  unfolding widen_verdict
  widen-accepted h = rw (le-ltb room (length old) h)

module _ {old ls : List ℤ} where
  -- a refused call leaves the levels
  pub widened-refused : {k x : ℕ} → widen_verdict old (length ls) ≡ refused k x → Widened old (refused k x) ls ls
  widened-refused e = record { answer = sym e; levels = sym (ap (λ (v : Verdict). written v old ls) e) }

  -- an accepted one writes the old numbers over them
  pub widened-accepted : {ls' : List ℤ} → widen_verdict old (length ls) ≡ accepted → ls' ≡ over old ls → Widened old accepted ls ls'
  widened-accepted e q = record { answer = sym e; levels = q ∙ sym (ap (λ (v : Verdict). written v old ls) e) }

-- ---- taken back

module _ (ls : List ℤ) where
  -- no level is too far exactly where each lies within -127 to 127
  pub all-within : length ls ≤ first_too_far ls → (j : ℕ) → j < length ls → nat_abs (get_or ls j (pos 0)) ≤ most_old
  unfolding too_far
  all-within h j l = ltb-false most_old (nat_abs (get_or ls j (pos 0))) (first-clear (too_far ls) (length ls) h j l)

  pub within_all : ((j : ℕ) → j < length ls → nat_abs (get_or ls j (pos 0)) ≤ most_old) → first_too_far ls ≡ length ls
  unfolding too_far
  within_all h = first-none (too_far ls) (length ls) (λ j l. le-ltb most_old (nat_abs (get_or ls j (pos 0))) (h j l))

module _ (ls : List ℤ) (room : ℕ) where
  -- refusal 7 where there are more than 65,536 levels
  pub narrow-many : 65536 < length ls → narrow_verdict ls room ≡ refused 7 0
  unfolding narrow_verdict
  narrow-many h = rw (lt-ltb 65536 (length ls) h)

  -- and where there is no room
  pub narrow_short : room < length ls → narrow_verdict ls room ≡ refused 7 0
  unfolding narrow_verdict
  narrow_short h = rw (lt-ltb room (length ls) h, or-true (ltb 65536 (length ls)))

  -- else refusal 13 at the first level that is too far
  pub narrow-level : length ls ≤ 65536 → length ls ≤ room → first_too_far ls < length ls → narrow_verdict ls room ≡ refused 13 (first_too_far ls)
  unfolding narrow_verdict
  narrow-level few fit far = rw (le-ltb 65536 (length ls) few, le-ltb room (length ls) fit, lt-ltb (first_too_far ls) (length ls) far)

  -- else nothing is refused
  pub narrow-passed : length ls ≤ 65536 → length ls ≤ room → first_too_far ls ≡ length ls → narrow_verdict ls room ≡ accepted
  unfolding narrow_verdict
  narrow-passed few fit all =
      rw (le-ltb 65536 (length ls) few, le-ltb room (length ls) fit, le-ltb (first_too_far ls) (length ls) (le_of_eq (sym all)))

module _ {ls old : List ℤ} where
  -- a refused call leaves the old levels
  pub narrowed-refused : {k x : ℕ} → narrow_verdict ls (length old) ≡ refused k x → Narrowed ls (refused k x) old old
  narrowed-refused e = record { answer = sym e; levels = sym (ap (λ (v : Verdict). written v ls old) e) }

  -- an accepted one writes the levels over them
  pub narrowed-accepted : {old' : List ℤ} → narrow_verdict ls (length old) ≡ accepted → old' ≡ over ls old → Narrowed ls accepted old old'
  narrowed-accepted e q = record { answer = sym e; levels = q ∙ sym (ap (λ (v : Verdict). written v ls old) e) }
