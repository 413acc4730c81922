-- Laws of levels kept as numbers: the next one is that of R + E cut to -L and L, and the bit is that of R.
-- Levels stay from -L to L.
--   biased-le                     == the number of a level is at most 2 * L
--   biased-back                   == a level's number gives the level back
--   back-biased                   == the number of the level made of a number is that number
--   next-biased                   == the number of R + E cut to -L and L, where E is a - b
--   next-zero, next_one           == the next number of a bit 0 and of a bit 1 is that of R + E cut to -L and L
--   chosen-most                   == either of two numbers is at most what both are
--   next-chosen                   == sum and difference of what a test chooses are chosen by it
--   above-biased                  == the number lies above the middle exactly where the level is above 0
--   above-bit, above-middle-bit   == either test gives a bit
-- Assumes nothing.
use mathlib.Core.Path.{◌≡◌, refl, sym, ap, ◌∙◌}
use mathlib.Core.Bool.{Bool, true, false, cond}
use Prim.Native.Nat.{ℕ, zero, suc, min, ◌+◌, ◌-◌, ◌*◌, ◌≤◌, ◌<◌}
use native.Mathlib.Decide.{dec_lt}
use native.Mathlib.Omega.{arith}
use borrow.Author.Tests.{lt-ltb, le-ltb, eq-eqb, ne_eqb}
use lib.Dec.{ltb}
use lib.IntN.{ℤ, pos, negsuc, neg_ℤ, nat_abs, sub_ℕ, ◌+ℤ◌}
use Rattle.counting.specs.Paper.Sum.{flag}
use Rattle.counting.specs.Paper.Integers.{cut, above_zero}
use Rattle.counting.proofs.Integers.{sub-ge, sub-lt, sub-sum}
use Rattle.iterative_levels.specs.Levels.{biased, next_level, above_middle}

-- ---- a level and its number

biased-neg : (L t : ℕ) → biased L (neg_ℤ (pos t)) ≡ L - t
biased-neg L zero = omega arith
biased-neg L (suc t) = refl

-- the number of a level is at most 2 * L
pub biased-le : (L : ℕ) (r : ℤ) → nat_abs r ≤ L → biased L r ≤ 2 * L
biased-le L (pos k) h = omega arith
biased-le L (negsuc k) h = omega arith

-- from the number back to the level
pub biased-back : (L : ℕ) (r : ℤ) → nat_abs r ≤ L → sub_ℕ (biased L r) L ≡ r
biased-back L (pos k) h = sub-ge (L + k) L k refl
biased-back L (negsuc k) h = sub-lt (L - suc k) L k (omega arith)

-- and from a level to its number
pub back-biased : (L x : ℕ) → biased L (sub_ℕ x L) ≡ x
back-biased L x =
    elim (dec_lt x L) [
      | yes l ↦ rw (sub-lt x L (L - x - 1) (omega arith)) (omega arith)
      | no g ↦ rw (sub-ge x L (x - L) (omega arith)) (omega arith)
    ]

-- a difference cut to -L and L, as its number: subtraction stops at 0
biased-cut : (L p q : ℕ) → biased L (cut L (sub_ℕ p q)) ≡ min (2 * L) (L + p - q)
biased-cut L p q =
    elim (dec_lt p q) [
      | yes l ↦ rw (sub-lt p q (q - p - 1) (omega arith)) (biased-neg L (min (suc (q - p - 1)) L) ∙ omega arith)
      | no g ↦ rw (sub-ge p q (p - q) (omega arith)) (omega arith)
    ]

-- R + E cut to -L and L, where E is a - b
pub next-biased : (L a b : ℕ) (r : ℤ) → nat_abs r ≤ L → biased L (cut L (r +ℤ sub_ℕ a b)) ≡ min (2 * L) (biased L r + a - b)
next-biased L a b r h =
    ap (λ (x : ℤ). biased L (cut L (x +ℤ sub_ℕ a b))) (sym (biased-back L r h))
    ∙ ap (λ (x : ℤ). biased L (cut L x)) (sub-sum (biased L r) L a b)
    ∙ biased-cut L (biased L r + a) (L + b)
    ∙ ap (min (2 * L)) (omega arith)

-- ---- the two cases of the next level

-- the next number of a bit 0 and of a bit 1 is that of R + E cut to -L and L
pub next-zero : (weight L v z : ℕ) (r : ℤ) → z ≡ 0 → nat_abs r ≤ L → next_level weight (2 * L) (biased L r) z v ≡ biased L (cut L (r +ℤ sub_ℕ (2 * v) weight))
unfolding next_level
next-zero weight L v z r e h =
    ap (λ (t : Bool). cond t (min (2 * L) (biased L r + 2 * v - weight)) (min (2 * L) (biased L r + weight - 2 * v))) (eq-eqb z 0 e)
    ∙ sym (next-biased L (2 * v) weight r h)

pub next_one : (weight L v z : ℕ) (r : ℤ) → z ≡ 1 → nat_abs r ≤ L → next_level weight (2 * L) (biased L r) z v ≡ biased L (cut L (r +ℤ sub_ℕ weight (2 * v)))
unfolding next_level
next_one weight L v z r e h =
    ap (λ (t : Bool). cond t (min (2 * L) (biased L r + 2 * v - weight)) (min (2 * L) (biased L r + weight - 2 * v))) (ne_eqb z 0 (λ q. omega arith))
    ∙ sym (next-biased L weight (2 * v) r h)

-- either of two numbers is at most what both are
pub chosen-most : (t : Bool) (a b most : ℕ) → a ≤ most → b ≤ most → cond t a b ≤ most
chosen-most true a b most h l = h
chosen-most false a b most h l = l

-- sum and difference of what a test chooses are chosen by it
pub next-chosen : (t : Bool) (ceiling x a b : ℕ)
    → min ceiling (x + cond t a b - cond t b a) ≡ cond t (min ceiling (x + a - b)) (min ceiling (x + b - a))
next-chosen true ceiling x a b = refl
next-chosen false ceiling x a b = refl

-- ---- the bit

-- the number lies above the middle exactly where the level is above 0
pub above-biased : (L : ℕ) (r : ℤ) → above_middle L (biased L r) ≡ above_zero r
unfolding above_middle
above-biased L (pos zero) = ap flag (le-ltb L (L + 0) (omega arith))
above-biased L (pos (suc k)) = ap flag (lt-ltb L (L + suc k) (omega arith))
above-biased L (negsuc k) = ap flag (le-ltb L (L - suc k) (omega arith))

-- either test gives a bit
pub above-bit : (r : ℤ) → above_zero r < 2
above-bit (pos zero) = omega arith
above-bit (pos (suc k)) = omega arith
above-bit (negsuc k) = omega arith

pub above-middle-bit : (L x : ℕ) → above_middle L x < 2
unfolding above_middle
above-middle-bit L x = flag-bit (ltb L x)
  where
    flag-bit : (t : Bool) → flag t < 2
    flag-bit true = omega arith
    flag-bit false = omega arith
