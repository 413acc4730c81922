-- Laws of the bit patterns of finite magnitudes: those below the pattern of infinity.
--   below-finite, finite-below   == they are those of finite floats, as an equation and as a fact
--   plus-below                   == of no minus sign
--   units-rise                   == a larger pattern has no smaller magnitude
-- Assumes nothing.
use mathlib.Core.Path.{◌≡◌, refl, sym, ap, ◌∙◌, subst}
use mathlib.Core.Bool.{not, true, false}
use Prim.Native.Nat.{ℕ, zero, suc, ◌+◌, ◌-◌, ◌*◌, ◌/◌, ◌%◌, ◌^◌, ◌≤◌, ◌<◌}
use native.Mathlib.Nat.{mul-one, mul-le-mul, mul-le-mul_right, not-suc-le-zero, pow-succ'}
use native.Mathlib.Decide.{ℕ_discrete}
use native.Mathlib.Omega.{arith}
use borrow.Author.Tests.{ne_eqb, lt-leb}
use lib.Dec.{T, leb}
use lib.Ieee.{binary32, of_bits}
use lib.Ieee.Scale.{finite}
use lib.Pow.{pow_pos, pow_mono}
use Rattle.byte_numbers.proofs.Patterns.{finite-pattern}
use Rattle.quantiser_levels.specs.Paper.Samples.{units_of, negative}
use Rattle.quantiser_levels.proofs.Floats.{low-apart, high-apart}
use Rattle.quantiser_table.specs.Least.{most_pattern}

-- the units by the exponent's field and the digits: only field 0 has no leading one
units_by : ℕ → ℕ → ℕ
units_by zero t = t
units_by (suc f) t = (8388608 + t) * 2 ^ f

by_field : (f t : ℕ) → (f ≡ 0 → ⊥) → (8388608 + t) * 2 ^ (f - 1) ≡ units_by f t
unfolding units_by
by_field zero t n = absurd (n refl)
by_field (suc f) t n =
    let e : suc f - 1 ≡ f = omega arith in
    ap (λ (k : ℕ). (8388608 + t) * 2 ^ k) e

-- a pattern below that of infinity is that of a finite float
pub below-finite : (p : ℕ) → p < most_pattern → finite (of_bits binary32 p) ≡ true
below-finite p l =
    let n : p % 2147483648 / 8388608 ≡ 255 → ⊥ = λ e. omega arith in
    finite-pattern p ∙ ap not (ne_eqb (p % 2147483648 / 8388608) 255 n)

pub finite-below : (p : ℕ) → p < most_pattern → T (finite (of_bits binary32 p))
finite-below p l = subst T (sym (below-finite p l)) tt

-- its float is taken apart by its exponent's field and its digits
apart_below : (p : ℕ) → p < most_pattern
    → (negative (of_bits binary32 p) ≡ false) × (units_of (of_bits binary32 p) ≡ units_by (p / 8388608) (p % 8388608))
unfolding units_by
apart_below p l =
    let f : p % 2147483648 / 8388608 ≡ p / 8388608 = omega arith in
    let s : leb 2147483648 p ≡ false = lt-leb 2147483648 p (omega arith) in
    elim (ℕ_discrete (p % 2147483648 / 8388608) 0) [
      | yes z ↦
          let a = low-apart p z in
          (sym a.sign ∙ s, a.value ∙ mul-one (p % 8388608) ∙ ap (λ (k : ℕ). units_by k (p % 8388608)) (sym z ∙ f))
      | no n ↦
          let a = high-apart p (finite-below p l) n in
          (sym a.sign ∙ s, a.value ∙ by_field (p % 2147483648 / 8388608) (p % 8388608) n ∙ ap (λ (k : ℕ). units_by k (p % 8388608)) f)
    ]

-- of no minus sign
pub plus-below : (p : ℕ) → p < most_pattern → negative (of_bits binary32 p) ≡ false
plus-below p l = (apart_below p l).0

-- with the same field more digits are more, and a larger field is more
more-digits : (f t u : ℕ) → t ≤ u → units_by f t ≤ units_by f u
unfolding units_by
more-digits zero t u h = h
more-digits (suc f) t u h = mul-le-mul_right (2 ^ f) (omega arith)

more-field : (f g t u : ℕ) → f < g → t < 8388608 → units_by f t ≤ units_by g u
unfolding units_by
more-field f zero t u h l = absurd (not-suc-le-zero h)
more-field zero (suc g) t u h l =
    let m : 8388608 ≤ 8388608 + u = omega arith in
    let a : 8388608 * 1 ≤ (8388608 + u) * 2 ^ g = mul-le-mul m (pow_pos g) in
    omega arith
more-field (suc f) (suc g) t u h l =
    let a : (8388608 + t) * 2 ^ f ≤ 16777216 * 2 ^ f = mul-le-mul_right (2 ^ f) (omega arith) in
    let b : 2 ^ suc f ≡ 2 * 2 ^ f = pow-succ' 2 f in
    let m : 8388608 ≤ 8388608 + u = omega arith in
    let c : 8388608 * 2 ^ suc f ≤ (8388608 + u) * 2 ^ g = mul-le-mul m (pow_mono {i = suc f} {j = g} (omega arith)) in
    omega arith

-- a larger pattern has no smaller magnitude
pub units-rise : (p q : ℕ) → p ≤ q → q < most_pattern → units_of (of_bits binary32 p) ≤ units_of (of_bits binary32 q)
units-rise p q h l =
    let a = (apart_below p (omega arith)).1 in
    let b = (apart_below q l).1 in
    let r : units_by (p / 8388608) (p % 8388608) ≤ units_by (q / 8388608) (q % 8388608) =
    elim (ℕ_discrete (p / 8388608) (q / 8388608)) [
      | yes e ↦ rw e (more-digits (q / 8388608) (p % 8388608) (q % 8388608) (omega arith))
      | no n ↦ more-field (p / 8388608) (q / 8388608) (p % 8388608) (q % 8388608) (omega arith) (omega arith)
    ] in
    omega (arith, a, b, r)
