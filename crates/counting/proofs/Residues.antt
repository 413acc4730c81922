-- Laws of remainders and of numbers by two digits.
--   digit-high, digit_low   == the digits of a * Z + x to the base Z are a and x
--   wrap-low, wrap-high     == the remainder of a number below Z is itself, and one Z less from Z to 2 Z
--   same_digits             == numbers of two digits are equal where both digits are
--   turns-once              == of the Z numbers from s on just one has remainder t
-- Assumes nothing.
use mathlib.Core.Path.{◌≡◌, sym, ap, ◌∙◌}
use mathlib.Core.Logic.{◌⊎◌, inl, inr}
use Prim.Native.Nat.{ℕ, ◌+◌, ◌*◌, ◌-◌, ◌/◌, ◌%◌, ◌≤◌, ◌<◌}
use native.Mathlib.Nat.{mod-eq_of_lt, mod-eq-sub-mod, zero-mul, mul-zero, mul-one}
use native.Mathlib.Decide.{ℕ_discrete, dec_lt}
use native.Mathlib.Omega.{arith}
use lib.Arith.{digits_div, digits_mod}
use Rattle.counting.specs.Paper.Sum.{sum_below, same}
use Rattle.counting.proofs.Sums.{sum-cong, sum-pick, same_refl, same-ne}

-- the digits of a * Z + x
pub digit-high : (Z a x : ℕ) → x < Z → (a * Z + x) / Z ≡ a
digit-high Z a x l = digits_div a l

pub digit_low : (Z a x : ℕ) → x < Z → (a * Z + x) % Z ≡ x
digit_low Z a x l = digits_mod a l

-- the remainder of a number below Z, and of one from Z to 2 Z
pub wrap-low : (Z x : ℕ) → x < Z → x % Z ≡ x
wrap-low Z x l = mod-eq_of_lt l

pub wrap-high : (Z x : ℕ) → Z ≤ x → x < Z + Z → x % Z ≡ x - Z
wrap-high Z x h l = let m : x - Z < Z = omega arith in mod-eq-sub-mod h ∙ mod-eq_of_lt m

-- numbers of two digits are equal where both digits are
pub same_digits : (Z a b x y : ℕ) → x < Z → y < Z → same (a * Z + x) (b * Z + y) ≡ same a b * same x y
same_digits Z a b x y l m =
    elim (ℕ_discrete a b) [
      | no ne ↦
          rw (same-ne a b ne, zero-mul (same x y))
          (same-ne (a * Z + x) (b * Z + y) (λ e. ne (sym (digit-high Z a x l) ∙ ap (λ (u : ℕ). u / Z) e ∙ digit-high Z b y m)))
      | yes e ↦
          elim (ℕ_discrete x y) [
            | no ne ↦
                rw (same-ne x y ne, mul-zero (same a b))
                (same-ne (a * Z + x) (b * Z + y) (λ q. ne (sym (digit_low Z a x l) ∙ ap (λ (u : ℕ). u % Z) q ∙ digit_low Z b y m)))
            | yes q ↦ rw (e, q, same_refl b, same_refl y, same_refl (b * Z + y))
          ]
    ]

-- ---- Z numbers one after another

-- two pairs of numbers that are equal together
same-both : (a b c d : ℕ) → (a ≡ b → c ≡ d) → (c ≡ d → a ≡ b) → same a b ≡ same c d
same-both a b c d f g =
    elim (ℕ_discrete a b) [ yes e ↦ rw (e, f e, same_refl b, same_refl d) | no ne ↦ same-ne a b ne ∙ sym (same-ne c d (λ q. ne (g q))) ]

-- the remainder of a number s further on: no turn, or one
step : (Z s j : ℕ) → s < Z → j < Z → (((j + s) % Z ≡ j + s) × (j + s < Z)) ⊎ (((j + s) % Z ≡ j + s - Z) × (Z ≤ j + s))
step Z s j hs l =
    elim (dec_lt (j + s) Z) [
      | yes m ↦ inl (wrap-low Z (j + s) m, m)
      | no n ↦ let h : Z ≤ j + s = omega arith in inr (wrap-high Z (j + s) h (omega arith), h)
    ]

-- the number below Z that s takes to remainder t
back : (Z s t : ℕ) → s < Z → t < Z → (i : ℕ) × (i < Z) × ((j : ℕ) → j < Z → same ((j + s) % Z) t ≡ same i j)
back Z s t hs ht =
    elim (dec_lt t s) [
      | yes l ↦ (
        t + Z - s,
        omega arith,
        λ j h. elim (step Z s j hs h) [
          | inl p ↦ same-both ((j + s) % Z) t (t + Z - s) j (λ e. omega (arith, p.0, p.1)) (λ e. omega (arith, p.0, p.1))
          | inr p ↦ same-both ((j + s) % Z) t (t + Z - s) j (λ e. omega (arith, p.0, p.1)) (λ e. omega (arith, p.0, p.1))
        ],
      )
      | no n ↦ (
        t - s,
        omega arith,
        λ j h. elim (step Z s j hs h) [
          | inl p ↦ same-both ((j + s) % Z) t (t - s) j (λ e. omega (arith, p.0, p.1)) (λ e. omega (arith, p.0, p.1))
          | inr p ↦ same-both ((j + s) % Z) t (t - s) j (λ e. omega (arith, p.0, p.1)) (λ e. omega (arith, p.0, p.1))
        ],
      )
    ]

-- of the Z numbers from s on just one has remainder t
pub turns-once : (Z s t : ℕ) → s < Z → t < Z → sum_below Z (λ i. same ((i + s) % Z) t) ≡ 1
turns-once Z s t hs ht =
    let r = back Z s t hs ht in
    sum-cong Z (λ j l. r.2 j l ∙ sym (mul-one (same r.0 j))) ∙ sum-pick Z (λ _. 1) r.0 r.1
