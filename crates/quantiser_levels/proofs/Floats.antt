-- A finite float by its bit pattern: its sign, and its magnitude in units of 2 ^ -149.
--   both-tests      == a float above minus infinity is finite exactly where it is below infinity
--   first-test      == a float that is not above minus infinity is not finite
--   finite-no-nan   == a finite float is no NaN
--   low-apart       == the sign and the magnitude of a pattern with exponent field 0
--   high-apart      == those of a finite float's pattern with another exponent field
--   moved           == an equal float has the same sign and magnitude
--   step-finite     == a step in range is finite
--   step-lead       == its significand is at least 2 ^ 23
-- Assumes nothing.
use mathlib.Core.Path.{◌≡◌, refl, sym, ap, ◌∙◌, subst}
use mathlib.Core.Bool.{Bool, true, false, not, ◌&&◌, cond}
use Prim.Native.Nat.{ℕ, zero, suc, ◌+◌, ◌-◌, ◌*◌, ◌/◌, ◌%◌, ◌^◌, ◌≤◌, ◌<◌}
use native.Mathlib.Nat.{mul-div_cancel, mul-one, le_trans, le-div_iff_mul-le}
use native.Mathlib.Omega.{arith}
use lib.Dec.{T, leb, eqb, lit≤}
use lib.IntN.{pos, negsuc}
use lib.Ieee.{Float, nan, inf, fin, binary32, odd, of_fields, of_bits, is_nan, lt, le}
use lib.Ieee.Fits.{down_pos, and_l, and_r}
use lib.Ieee.Exact.{HasValue, odd_sign}
use lib.Ieee.Positive.{positive, num, den, den_pos, own_value, positive-finite, between, values_of_le}
use lib.Ieee.Scale.{finite}
use Rattle.quantiser_levels.specs.Paper.Samples.{units_of, step_fits}
use Rattle.quantiser_levels.specs.Scale.{Digits, Apart}

-- ---- the two tests of `is_finite`

-- a float above minus infinity is finite exactly where it is below infinity
pub both-tests : (x : Float) → lt (inf true) x ≡ true → lt x (inf false) ≡ finite x
unfolding lt
both-tests nan h = refl
both-tests (inf true) h = sym h
both-tests (inf false) h = refl
both-tests (fin s m e) h = refl

-- a float that is not above minus infinity is not finite
pub first-test : (x : Float) → lt (inf true) x ≡ false → false ≡ finite x
unfolding lt
first-test nan h = refl
first-test (inf s) h = refl
first-test (fin s m e) h = sym h

-- a finite float is no NaN
pub finite-no-nan : (x : Float) → T (finite x) → T (not (is_nan x))
unfolding is_nan
finite-no-nan nan h = h
finite-no-nan (inf s) h = tt
finite-no-nan (fin s m e) h = tt

-- ---- a pattern, taken apart

apart : (x : Float) (s : Bool) (n k : ℕ) → HasValue x s (n * 2 ^ k) (2 ^ 149) → Digits n k → Apart x s n k
apart nan s n k v d = absurd v
apart (inf t) s n k v d = absurd v
apart (fin t m e) s n k v d =
    record { sign = sym v.0; value = ap (λ (a : ℕ). a / den (fin t m e)) v.1 ∙ mul-div_cancel (n * 2 ^ k) (down_pos e); digits = d }

-- zeros and subnormals: the exponent's field is 0
fields-low : (s : Bool) (t : ℕ) → t < 8388608 → Apart (of_fields binary32 s 0 t) s t 0
unfolding of_fields
fields-low s t h = apart _ s t 0 (odd_sign 24 s t 0 149) (record { below = omega arith; lead = λ l. omega arith })

-- the others have a leading one before the field's digits
fields-high : (s : Bool) (f t : ℕ) → t < 8388608 → T (finite (of_fields binary32 s (suc f) t)) → Apart (of_fields binary32 s (suc f) t) s (8388608 + t) f
unfolding of_fields
fields-high s f t h = go (eqb (suc f) 255) (eqb t 0)
  where
    go : (a b : Bool) → T (finite (cond a (cond b (inf s) nan) (odd 24 s (8388608 + t) f 149)))
        → Apart (cond a (cond b (inf s) nan) (odd 24 s (8388608 + t) f 149)) s (8388608 + t) f
    go true true i = absurd i
    go true false i = absurd i
    go false b i = apart _ s (8388608 + t) f (odd_sign 24 s (8388608 + t) f 149) (record { below = omega arith; lead = λ l. omega arith })

-- the sign and the magnitude of a pattern with exponent field 0
pub low-apart : (b : ℕ) → b % 2147483648 / 8388608 ≡ 0 → Apart (of_bits binary32 b) (leb 2147483648 b) (b % 8388608) 0
unfolding of_bits
low-apart b z =
    subst (λ (f : ℕ). Apart (of_fields binary32 (leb 2147483648 b) f (b % 8388608)) (leb 2147483648 b) (b % 8388608) 0) (sym z)
    (fields-low (leb 2147483648 b) (b % 8388608) (omega arith))

-- those of a finite float's pattern with another exponent field
pub high-apart : (b : ℕ) → T (finite (of_bits binary32 b)) → (b % 2147483648 / 8388608 ≡ 0 → ⊥)
    → Apart (of_bits binary32 b) (leb 2147483648 b) (8388608 + b % 8388608) (b % 2147483648 / 8388608 - 1)
unfolding of_bits
high-apart b h n = go (b % 2147483648 / 8388608) n h
  where
    go : (f : ℕ) → (f ≡ 0 → ⊥) → T (finite (of_fields binary32 (leb 2147483648 b) f (b % 8388608)))
        → Apart (of_fields binary32 (leb 2147483648 b) f (b % 8388608)) (leb 2147483648 b) (8388608 + b % 8388608) (f - 1)
    go zero n h = absurd (n refl)
    go (suc f) n h =
        let back : f ≡ suc f - 1 = omega arith in
        subst (λ (k : ℕ). Apart (of_fields binary32 (leb 2147483648 b) (suc f) (b % 8388608)) (leb 2147483648 b) (8388608 + b % 8388608) k) back
        (fields-high (leb 2147483648 b) f (b % 8388608) (omega arith) h)

-- the same of an equal float
pub moved : {x y : Float} {s : Bool} {n k : ℕ} → x ≡ y → Apart x s n k → Apart y s n k
moved {x} {y} {s} {n} {k} e a = subst (λ (z : Float). Apart z s n k) e a

-- ---- a step in range is finite, and has its leading one

module _ (x : Float) (e : step_fits x ≡ true) where
  tests : T (le (fin false 1 (negsuc 19)) x && le x (fin false 1 (pos 20)))
  unfolding step_fits
  tests = subst T (sym e) tt

  least-le : T (le (fin false 1 (negsuc 19)) x)
  least-le = and_l (le (fin false 1 (negsuc 19)) x) (le x (fin false 1 (pos 20))) tests

  above_zero : T (positive x)
  above_zero =
      between (fin false 1 (negsuc 19)) x (fin false 1 (pos 20)) tt tt least-le (and_r (le (fin false 1 (negsuc 19)) x) (le x (fin false 1 (pos 20))) tests)

  -- a step in range is finite
  pub step-finite : T (finite x)
  step-finite = positive-finite x above_zero

  step_from : 2 ^ 129 ≤ units_of x
  step_from =
      (le-div_iff_mul-le (den_pos x)).1
      (values_of_le (fin false 1 (negsuc 19)) x (2 ^ 129) (2 ^ 149) (num x) (den x) tt above_zero (refl, refl) (own_value x above_zero) least-le)

  -- its significand is at least 2 ^ 23
  pub step-lead : {s : Bool} {n : ℕ} (k : ℕ) → Apart x s n k → 2 ^ 23 ≤ n
  step-lead {s} {n} zero a =
      let l : 2 ^ 24 ≤ units_of x = le_trans (lit≤ tt) step_from in
      let v : units_of x ≡ n = a.value ∙ mul-one n in
      omega (arith, a.digits.below)
  step-lead (suc k) a = a.digits.lead (omega arith)
