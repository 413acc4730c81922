-- What `fill` stores: nothing yet, one sample more, and that the levels by a setting's scale are the setting's.
--   stored-none     == nothing is stored yet
--   stored_more     == one sample more is stored
--   stored-filled   == what is stored by a setting's scale is what the setting gives
--   filled-bit      == the cells filled are bits
-- Assumes nothing.
use mathlib.Core.Path.{◌≡◌, refl, sym, ap, ◌∙◌}
use mathlib.Core.List.{List}
use Prim.Native.Nat.{ℕ, ◌+◌, ◌*◌, ◌^◌, ◌<◌}
use native.Mathlib.Nat.{not-suc-le-zero}
use native.Mathlib.Numerals.{add-one}
use native.Mathlib.Decide.{ℕ_discrete}
use native.Mathlib.Omega.{arith}
use lib.IntN.{ℤ}
use lib.ListN.{length, get_or, set, length-set}
use lib.Ieee.{Float, nan}
use lib.Seq.{get_or-set_same, get_or-set_other}
use Rattle.counting.specs.Paper.Lists.{listed, over}
use Rattle.counting.specs.Places.{at}
use Rattle.counting.proofs.Writes.{listed-cong, over_none, over-more}
use Rattle.quantiser_levels.specs.Paper.Samples.{Setting, magnitude, level_of, levels_of, hard_bit}
use Rattle.quantiser_levels.specs.Scale.{level_by, level_at, Scaled}
use Rattle.quantiser.specs.Buffers.{Stored, Filled}
use Rattle.quantiser_settings.proofs.Ranges.{hard-bit-at}

module _ {f : ℕ → ℤ} {b : ℕ → ℕ} {ls : List ℤ} {bs : List ℕ} where
  -- nothing is stored yet
  pub stored-none : Stored f b 0 ls ls bs bs
  stored-none =
      record { levels = sym (over_none f ls); broad = refl; long = refl; each = λ j l. absurd (not-suc-le-zero l); rest = λ j l. refl }

  -- one sample more is stored
  pub stored_more : {k : ℕ} {ls' : List ℤ} {bs' : List ℕ} {v : ℤ} {h : ℕ} → k < length ls → k < length bs → v ≡ f k → h ≡ b k
      → Stored f b k ls ls' bs bs' → Stored f b (k + 1) ls (set ls' k v) bs (set bs' k h)
  stored_more {k} {ls'} {bs'} {v} {h} room cells e q p =
      record {
        levels =
            ap (λ (x : ℤ). set ls' k x) e
            ∙ ap (λ (l : List ℤ). set l k (f k)) p.levels
            ∙ over-more k f ls room
            ∙ ap (λ (n : ℕ). over (listed n f) ls) (sym (add-one k));
        broad = length-set ls' k v ∙ p.broad;
        long = length-set bs' k h ∙ p.long;
        each = λ j l. elim (ℕ_discrete j k) [
          | yes y ↦ ap (at (set bs' k h)) y ∙ get_or-set_same bs' k h 0 (omega (arith, p.long)) ∙ q ∙ ap b (sym y)
          | no n ↦ get_or-set_other bs' k j h 0 n ∙ p.each j (omega arith)
        ];
        rest = λ j l. get_or-set_other bs' k j h 0 (λ y. omega arith) ∙ p.rest j (omega arith);
      }

-- the level by a setting's scale is the setting's
scaled-level : {S : Setting} {g t n k : ℕ} → Scaled S g t n k → (x : Float) → level_by g t (n * 2 ^ k) x ≡ level_of S x
unfolding level_by level_of magnitude
scaled-level p x = cc

scaled-levels : {S : Setting} {g t n k : ℕ} → Scaled S g t n k → (xs : List Float) → listed (length xs) (level_at g t (n * 2 ^ k) xs) ≡ levels_of S xs
unfolding level_at levels_of
scaled-levels {S} {g} {t} {n} {k} p xs =
    listed-cong (length xs) (level_at g t (n * 2 ^ k) xs) (λ j. level_of S (get_or xs j nan)) (λ j l. scaled-level p (get_or xs j nan))

-- what is stored by a setting's scale, in an array of 1023 cells
pub stored-filled : {S : Setting} {g t n k : ℕ} {xs : List Float} {ls ls' : List ℤ} {bs bs' : List ℕ} → Scaled S g t n k → length bs ≡ 1023
    → Stored (level_at g t (n * 2 ^ k) xs) (hard_bit xs) (length xs) ls ls' bs bs' → Filled S xs ls ls' bs bs'
stored-filled {xs = xs} {ls = ls} s e p =
    record { levels = p.levels ∙ ap (λ (l : List ℤ). over l ls) (scaled-levels s xs); long = p.long ∙ e; each = p.each; rest = p.rest }

-- the cells filled are bits
pub filled-bit : {S : Setting} {xs : List Float} {ls ls' : List ℤ} {bs bs' : List ℕ} → Filled S xs ls ls' bs bs' → (j : ℕ) → j < length xs → at bs' j < 2
filled-bit {xs = xs} p j l = omega (arith, p.each j l, hard-bit-at xs j)
