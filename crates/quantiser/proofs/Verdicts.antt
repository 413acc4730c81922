-- What the quantiser answers and writes, case by case of its refusals.
--   verdict-setting                  == refusal 6 where the setting is out of range
--   verdict-buffer                   == else refusal 7 where a buffer is too short
--   verdict-sample                   == else refusal 8 at the first sample that is not finite
--   verdict-accepted                 == else nothing is refused
--   long-enough                      == buffers that are not too short have room for at most 1023 samples' levels and bits
--   accepted-reads, reads-accepted   == a call is accepted exactly where what it asks holds
--   quantised-refused                == a refused call leaves both buffers
--   quantised-accepted               == an accepted one writes the levels and the cells filled, packed
--   no-samples                       == without samples a call by a setting in range is accepted, whatever the buffers
--   nothing_written                  == without samples nothing is written
-- Assumes nothing.
use mathlib.Core.Path.{◌≡◌, refl, sym, ap, ◌∙◌}
use mathlib.Core.Bool.{Bool, true, false, not, ◌||◌}
use mathlib.Core.List.{List, []}
use Prim.Native.Nat.{ℕ, ◌≤◌, ◌<◌}
use native.Mathlib.Nat.{le_of_eq, not-suc-le-zero}
use native.Mathlib.Decide.{dec_lt}
use native.Mathlib.Omega.{arith}
use lib.Dec.{T, ltb}
use lib.IntN.{ℤ}
use lib.Ieee.{Float, nan}
use lib.Ieee.Scale.{finite}
use lib.ListN.{length, get_or}
use borrow.Author.Tests.{ltb-false, lt-ltb, le-ltb}
use Rattle.counting.specs.Paper.Lists.{listed, over}
use Rattle.counting.specs.Places.{at}
use Rattle.counting.proofs.Searches.{cases, or_left, or_right, or-neither, first-none, first-le}
use Rattle.answers.specs.Paper.Answers.{Verdict, accepted, refused, written}
use Rattle.answers.proofs.Verdicts.{not-accepted}
use Rattle.packed_word.specs.Paper.Packed.{bytes_for, pack}
use Rattle.packed_word.proofs.Packed.{pack-cong}
use Rattle.quantiser_levels.specs.Paper.Samples.{Setting, setting_fits, levels_of, hard_bit, hard_word, not_finite, first_not_finite, too_short, quantise_verdict}
use Rattle.quantiser.specs.Paper.PlainCall.{Acceptable}
use Rattle.quantiser.specs.Buffers.{Filled}
use Rattle.quantiser.specs.Paper.Call.{Quantised}
use Rattle.quantiser_settings.proofs.Ranges.{fits-reads, reads-fits, all-finite}

-- ---- the verdict

module _ (S : Setting) (xs : List Float) (l b : ℕ) where
  -- refusal 6 where the setting is out of range
  pub verdict-setting : setting_fits S ≡ false → quantise_verdict S xs l b ≡ refused 6 0
  unfolding quantise_verdict
  verdict-setting e = rw e

  -- else refusal 7 where a buffer is too short
  pub verdict-buffer : setting_fits S ≡ true → too_short (length xs) l b ≡ true → quantise_verdict S xs l b ≡ refused 7 0
  unfolding quantise_verdict
  verdict-buffer e f = rw (e, f)

  -- else refusal 8 at the first sample that is not finite
  pub verdict-sample : setting_fits S ≡ true → too_short (length xs) l b ≡ false → first_not_finite xs < length xs
      → quantise_verdict S xs l b ≡ refused 8 (first_not_finite xs)
  unfolding quantise_verdict
  verdict-sample e f h = rw (e, f, lt-ltb _ _ h)

  -- else nothing is refused
  pub verdict-accepted : setting_fits S ≡ true → too_short (length xs) l b ≡ false → first_not_finite xs ≡ length xs → quantise_verdict S xs l b ≡ accepted
  unfolding quantise_verdict
  verdict-accepted e f h = rw (e, f, le-ltb _ _ (le_of_eq (sym h)))

-- buffers that are long enough
pub long-enough : (n l b : ℕ) → too_short n l b ≡ false → (n ≤ 1023) × (n ≤ l) × (bytes_for n ≤ b)
long-enough n l b e =
    let r = or_right (ltb 1023 n) (ltb l n || ltb b (bytes_for n)) e in (
      ltb-false 1023 n (or_left (ltb 1023 n) (ltb l n || ltb b (bytes_for n)) e),
      ltb-false l n (or_left (ltb l n) (ltb b (bytes_for n)) r),
      ltb-false b (bytes_for n) (or_right (ltb l n) (ltb b (bytes_for n)) r),
    )

-- ---- accepted exactly when no refusal applies

module _ (S : Setting) (xs : List Float) (l b : ℕ) where
  -- a call is accepted exactly where what it asks holds
  pub accepted-reads : quantise_verdict S xs l b ≡ accepted → Acceptable S xs l b
  accepted-reads e =
      cases (setting_fits S)
      (λ fit.
      cases (too_short (length xs) l b) (λ short. absurd (not-accepted (sym (verdict-buffer S xs l b fit short) ∙ e)))
      (λ room.
      elim (dec_lt (first_not_finite xs) (length xs)) [
        | yes h ↦ absurd (not-accepted (sym (verdict-sample S xs l b fit room h) ∙ e))
        | no g ↦
            let n = long-enough (length xs) l b room in
            let q : first_not_finite xs ≡ length xs = omega (arith, first-le (not_finite xs) (length xs)) in
            record { setting = fits-reads S fit; few = n.0; levels = n.1; bytes = n.2; each = all-finite xs q }
      ]))
      (λ bad. absurd (not-accepted (sym (verdict-setting S xs l b bad) ∙ e)))

  pub reads-accepted : Acceptable S xs l b → quantise_verdict S xs l b ≡ accepted
  unfolding not_finite
  reads-accepted a =
      verdict-accepted S xs l b (reads-fits S a.setting)
      (or-neither (ltb 1023 (length xs)) _ (le-ltb _ _ a.few) (or-neither (ltb l (length xs)) _ (le-ltb _ _ a.levels) (le-ltb _ _ a.bytes)))
      (first-none (not_finite xs) (length xs) (λ j h. ap not (holds (finite (get_or xs j nan)) (a.each j h))))
    where
      holds : (t : Bool) → T t → t ≡ true
      holds true h = refl
      holds false h = absurd h

-- ---- what is written

module _ {S : Setting} {xs : List Float} {ls : List ℤ} {w : List ℕ} where
  -- a refused call leaves both buffers
  pub quantised-refused : {k x : ℕ} → quantise_verdict S xs (length ls) (length w) ≡ refused k x → Quantised S xs (refused k x) ls ls w w
  quantised-refused e =
      record {
        answer = sym e;
        levels = sym (ap (λ (v : Verdict). written v (levels_of S xs) ls) e);
        word = sym (ap (λ (v : Verdict). written v (hard_word xs) w) e);
      }

  -- an accepted one writes the levels and the cells filled, packed
  pub quantised-accepted : {ls' : List ℤ} {w' bs bs' : List ℕ} → quantise_verdict S xs (length ls) (length w) ≡ accepted → Filled S xs ls ls' bs bs'
      → w' ≡ over (pack (length xs) (at bs')) w → Quantised S xs accepted ls ls' w w'
  unfolding hard_word
  quantised-accepted {bs' = bs'} e f q =
      record {
        answer = sym e;
        levels = f.levels ∙ sym (ap (λ (v : Verdict). written v (levels_of S xs) ls) e);
        word =
            q
            ∙ ap (λ (z : List ℕ). over z w) (pack-cong (length xs) (at bs') (hard_bit xs) f.each)
            ∙ sym (ap (λ (v : Verdict). written v (hard_word xs) w) e);
      }

-- ---- no samples

-- they are accepted, whatever the buffers
pub no-samples : (S : Setting) (l b : ℕ) → setting_fits S ≡ true → quantise_verdict S [] l b ≡ accepted
no-samples S l b e =
    reads-accepted S [] l b
    (record { setting = fits-reads S e; few = omega arith; levels = omega arith; bytes = omega arith; each = λ j h. absurd (not-suc-le-zero h) })

-- and nothing is written
pub nothing_written : (S : Setting) (ls : List ℤ) (w : List ℕ) → (over (levels_of S []) ls ≡ ls) × (over (hard_word []) w ≡ w)
unfolding over levels_of hard_word pack listed
nothing_written S ls w = (refl, refl)
