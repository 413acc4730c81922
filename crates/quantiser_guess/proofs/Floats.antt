-- Laws of floats that are no NaN, and of the sign of a finite float's pattern.
--   lower-no-nan         == what lies below something is no NaN
--   finite-no-nan        == a finite float is no NaN
--   sum-no-nan           == the sum of a float that is no NaN and a finite one is no NaN
--   whole-finite         == a whole number of at most 2 ^ 24 as a float is finite
--   least-no-nan         == a pattern up to infinity's is no NaN's
--   finite-unsigned      == a float is finite where the one without its sign is
--   magnitude-unsigned   == a finite sample and the one without its sign have levels of one magnitude
--   negative-pattern     == a finite sample is negative where its pattern has the sign
--   hard-pattern         == the hard bit of a finite sample by its pattern
-- Assumes nothing.
use mathlib.Core.Path.{◌≡◌, refl, sym, ap, subst, ◌∙◌}
use mathlib.Core.Bool.{Bool, true, false, not, cond, ◌&&◌, beq}
use Prim.Native.Nat.{ℕ, zero, suc, min, ◌+◌, ◌-◌, ◌*◌, ◌/◌, ◌%◌, ◌^◌, ◌≤◌, ◌<◌}
use native.Mathlib.Nat.{mul-pos, zero-mul}
use native.Mathlib.Decide.{ℕ_discrete, dec_lt}
use native.Mathlib.Omega.{arith}
use borrow.Author.Tests.{lt-ltb, le-ltb, le-leb, lt-leb}
use lib.Dec.{T, leb, ltb, eqb}
use lib.Pow.{pow_pos}
use lib.IntN.{ℤ, pos}
use lib.Ieee.{Float, nan, inf, fin, Format, binary32, up, down, odd, units, round, sum, add, lt, is_nan, nan_bits, of_fields, of_bits, of_int, prec, low, emax}
use lib.Ieee.Bits.{nan_bits_above, is_true}
use lib.Ieee.Back.{round_whole}
use lib.Ieee.Exact.{HasValue, odd_sign}
use lib.Ieee.Fits.{up_pos}
use lib.Ieee.Positive.{positive, positive_of_value}
use lib.Ieee.Scale.{finite}
use Rattle.byte_numbers.proofs.Patterns.{finite-pattern}
use Rattle.quantiser_levels.specs.Paper.Samples.{Setting, units_of, negative, largest, gain, nearest_whole, magnitude, hard_of}
use Rattle.quantiser_levels.proofs.Floats.{low-apart, high-apart}
use Rattle.quantiser_table.specs.Least.{most_pattern}
use Rattle.quantiser_guess.specs.Guess.{bit_by}

-- ---- no NaN

odd_number : (d : ℕ) (s : Bool) (q k l : ℕ) → is_nan (odd d s q k l) ≡ false
unfolding odd is_nan
odd_number d s zero k l = refl
odd_number d s (suc q) k l = refl

units_number : (f : Format) (s : Bool) (q k : ℕ) → is_nan (units f s q k) ≡ false
unfolding units is_nan
units_number f s q k = go (ltb (q * 2 ^ k) (2 ^ (low f + suc (emax f))))
  where
    go : (b : Bool) → is_nan (cond b (odd (suc (prec f)) s q k (low f)) (inf s)) ≡ false
    go true = odd_number (suc (prec f)) s q k (low f)
    go false = refl

round_number : (f : Format) (s : Bool) (a b : ℕ) → is_nan (round f s a b) ≡ false
unfolding round
round_number f s a b = units_number f s _ _

sum_number : (f : Format) (s : Bool) (a : ℕ) (t : Bool) (b c : ℕ) → is_nan (sum f s a t b c) ≡ false
unfolding sum
sum_number f s a t b c =
    pick (beq s t) (round f s (a + b) c) (cond (ltb a b) (round f t (b - a) c) (round f (s && ltb b a) (a - b) c)) (round_number f s (a + b) c)
    (pick (ltb a b) (round f t (b - a) c) (round f (s && ltb b a) (a - b) c) (round_number f t (b - a) c) (round_number f (s && ltb b a) (a - b) c))
  where
    pick : (p : Bool) (x y : Float) → is_nan x ≡ false → is_nan y ≡ false → is_nan (cond p x y) ≡ false
    pick true x y e g = e
    pick false x y e g = g

-- what lies below something is no NaN
pub lower-no-nan : (x y : Float) → lt x y ≡ true → is_nan x ≡ false
unfolding lt is_nan
lower-no-nan nan y e = sym e
lower-no-nan (inf s) y e = refl
lower-no-nan (fin s m k) y e = refl

pub finite-no-nan : (x : Float) → T (finite x) → is_nan x ≡ false
unfolding is_nan
finite-no-nan nan h = absurd h
finite-no-nan (inf s) h = refl
finite-no-nan (fin s m k) h = refl

-- the sum of a float that is no NaN and a finite one is no NaN
pub sum-no-nan : (f : Format) (x y : Float) → is_nan x ≡ false → T (finite y) → is_nan (add f x y) ≡ false
unfolding add is_nan
sum-no-nan f nan y e h = e
sum-no-nan f (inf s) nan e h = absurd h
sum-no-nan f (inf s) (inf t) e h = absurd h
sum-no-nan f (inf s) (fin t n d) e h = refl
sum-no-nan f (fin s m k) nan e h = absurd h
sum-no-nan f (fin s m k) (inf t) e h = absurd h
sum-no-nan f (fin s m k) (fin t n d) e h = sum_number f s _ t _ _

-- a float that has a value is finite
value-finite : (x : Float) (s : Bool) (a c : ℕ) → HasValue x s a c → T (finite x)
value-finite nan s a c h = absurd h
value-finite (inf t) s a c h = absurd h
value-finite (fin t m e) s a c h = tt

pub whole-finite : (n : ℕ) → n ≤ 16777216 → T (finite (of_int binary32 (pos n)))
unfolding of_int
whole-finite n h = value-finite (round binary32 false n 1) false n 1 (round_whole binary32 false n h)

-- a pattern up to infinity's is no NaN's
pub least-no-nan : (p : ℕ) → p ≤ most_pattern → T (not (nan_bits binary32 p))
least-no-nan p h =
    let l : p % 2147483648 ≤ 2139095040 = omega arith in
    subst (λ (b : Bool). T (not b)) (sym (nan_bits_above binary32 p ∙ le-ltb 2139095040 (p % 2147483648) l)) tt

-- ---- the sign of a pattern

-- a float is finite where the one without its sign is
pub finite-unsigned : (u : ℕ) → T (finite (of_bits binary32 (u % 2147483648))) → T (finite (of_bits binary32 u))
finite-unsigned u h =
    let e : u % 2147483648 % 2147483648 / 8388608 ≡ u % 2147483648 / 8388608 = omega arith in
    subst T (finite-pattern (u % 2147483648) ∙ ap (λ (f : ℕ). not (eqb f 255)) e ∙ sym (finite-pattern u)) h

module _ (u : ℕ) (h : T (finite (of_bits binary32 (u % 2147483648)))) where
  -- the units of a finite float are those of the one without its sign
  units-unsigned : units_of (of_bits binary32 u) ≡ units_of (of_bits binary32 (u % 2147483648))
  units-unsigned =
      let e : u % 2147483648 % 2147483648 / 8388608 ≡ u % 2147483648 / 8388608 = omega arith in
      let d : u % 2147483648 % 8388608 ≡ u % 8388608 = omega arith in
      elim (ℕ_discrete (u % 2147483648 / 8388608) 0) [
        | yes z ↦ (low-apart u z).value ∙ ap (λ (n : ℕ). n * 2 ^ 0) (sym d) ∙ sym (low-apart (u % 2147483648) (e ∙ z)).value
        | no ne ↦ (high-apart u (finite-unsigned u h) ne).value
            ∙ ap (λ (n : ℕ). (8388608 + n) * 2 ^ (u % 2147483648 / 8388608 - 1)) (sym d)
            ∙ ap (λ (f : ℕ). (8388608 + u % 2147483648 % 8388608) * 2 ^ (f - 1)) (sym e)
            ∙ sym (high-apart (u % 2147483648) h (λ z. ne (sym e ∙ z))).value
      ]

  -- a finite sample and the one without its sign have levels of one magnitude
  pub magnitude-unsigned : (S : Setting) → magnitude S (of_bits binary32 u) ≡ magnitude S (of_bits binary32 (u % 2147483648))
  unfolding magnitude
  magnitude-unsigned S =
      ap (λ (n : ℕ). min (largest S.bits) (nearest_whole (gain S * n) (units_of S.step))) units-unsigned

  -- a finite sample is negative where its pattern has the sign
  pub negative-pattern : negative (of_bits binary32 u) ≡ leb 2147483648 u
  negative-pattern =
      elim (ℕ_discrete (u % 2147483648 / 8388608) 0) [
        | yes z ↦ sym (low-apart u z).sign
        | no ne ↦ sym (high-apart u (finite-unsigned u h) ne).sign
      ]

-- ---- the hard bit

-- above zero as the code compares
above_zero : (m : ℕ) (e : ℤ) → lt (fin false 0 (pos 0)) (fin false m e) ≡ ltb 0 m
unfolding lt
above_zero zero e = le-ltb (0 * 1 * down e) (0 * up e * 1) (omega (arith, zero-mul (up e)))
above_zero (suc m) e =
    let q : 0 < suc m * up e = mul-pos (omega arith) (up_pos e) in
    lt-ltb (0 * 1 * down e) (suc m * up e * 1) (omega (arith, q, zero-mul (down e))) ∙ sym (lt-ltb 0 (suc m) (omega arith))

above-positive : (x : Float) → T (finite x) → lt (fin false 0 (pos 0)) x ≡ positive x
unfolding lt
above-positive nan h = absurd h
above-positive (inf s) h = absurd h
above-positive (fin true m e) h = refl
above-positive (fin false m e) h = above_zero m e

odd-finite : (d : ℕ) (s : Bool) (q k l : ℕ) → T (finite (odd d s q k l))
unfolding odd
odd-finite d s zero k l = tt
odd-finite d s (suc q) k l = tt

odd-positive : (d : ℕ) (s : Bool) (q k l : ℕ) → positive (odd d s q k l) ≡ not s && ltb 0 q
unfolding odd
odd-positive d true zero k l = refl
odd-positive d true (suc q) k l = refl
odd-positive d false zero k l = refl
odd-positive d false (suc q) k l =
    is_true (positive (odd d false (suc q) k l)) (positive_of_value (odd d false (suc q) k l) (suc q * 2 ^ k) (2 ^ l) (odd_sign d false (suc q) k l) (mul-pos (omega arith) (pow_pos k)))
    ∙ sym (lt-ltb 0 (suc q) (omega arith))

above_odd : (d : ℕ) (s : Bool) (q k l : ℕ) → lt (fin false 0 (pos 0)) (odd d s q k l) ≡ not s && ltb 0 q
above_odd d s q k l = above-positive (odd d s q k l) (odd-finite d s q k l) ∙ odd-positive d s q k l

-- by the exponent's field x and the digits t
above-fields : (s : Bool) (x t : ℕ) → T (finite (of_fields binary32 s x t)) → lt (fin false 0 (pos 0)) (of_fields binary32 s x t) ≡ not s && ltb 0 (x + t)
unfolding of_fields
above-fields s zero t h = above_odd 24 s t 0 149 ∙ ap (λ (n : ℕ). not s && ltb 0 n) (let q : t ≡ 0 + t = omega arith in q)
above-fields s (suc x) t h = go (eqb (suc x) 255) (eqb t 0) h
  where
    go : (a b : Bool) → T (finite (cond a (cond b (inf s) nan) (odd 24 s (8388608 + t) x 149)))
        → lt (fin false 0 (pos 0)) (cond a (cond b (inf s) nan) (odd 24 s (8388608 + t) x 149)) ≡ not s && ltb 0 (suc x + t)
    go true true i = absurd i
    go true false i = absurd i
    go false b i =
        above_odd 24 s (8388608 + t) x 149
        ∙ ap (λ (n : Bool). not s && n) (lt-ltb 0 (8388608 + t) (omega arith) ∙ sym (lt-ltb 0 (suc x + t) (omega arith)))

-- the definition's test and the code's
same_test : (u : ℕ) → not (leb 2147483648 u) && ltb 0 (u % 2147483648 / 8388608 + u % 8388608) ≡ ltb u 2147483648 && ltb 0 u
same_test u =
    elim (dec_lt u 2147483648) [
      | yes l ↦ rw (lt-leb 2147483648 u l, lt-ltb u 2147483648 l) (
          elim (ℕ_discrete u 0) [
            | yes z ↦ le-ltb 0 (u % 2147483648 / 8388608 + u % 8388608) (omega arith) ∙ sym (le-ltb 0 u (omega arith))
            | no ne ↦ lt-ltb 0 (u % 2147483648 / 8388608 + u % 8388608) (omega arith) ∙ sym (lt-ltb 0 u (omega arith))
          ])
      | no ge ↦ rw (le-leb 2147483648 u (omega arith), le-ltb u 2147483648 (omega arith))
    ]

-- the hard bit of a finite sample by its pattern
pub hard-pattern : (u : ℕ) → T (finite (of_bits binary32 u)) → hard_of (of_bits binary32 u) ≡ bit_by u
unfolding hard_of bit_by of_bits
hard-pattern u h =
    ap (λ (b : Bool). cond b 1 0) (above-fields (leb 2147483648 u) (u % 2147483648 / 8388608) (u % 8388608) h ∙ same_test u)
