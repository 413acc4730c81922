-- The lowest one of a word, and the word without it.
--   Lowest k y b      == of a word y of k places, place b is the lowest one
--   lowest            == in a word that is not 0 it stands behind the zeros that are counted
--   lowest-here       == it is a one
--   lowest-before     == below it stand zeros
--   cleared-here      == y & (y - 1) has no one up to it
--   cleared-above     == and above it is y
--   cleared-less      == and is less than y
-- Assumes nothing.
use mathlib.Core.Path.{◌≡◌, refl, sym, ap, ap₂, ◌∙◌}
use Prim.Native.Nat.{ℕ, zero, suc, ◌+◌, ◌*◌, ◌-◌, ◌/◌, ◌%◌, ◌^◌, ◌<◌, ◌≤◌, min}
use native.Mathlib.Nat.{mul_assoc, mul_comm, mul-one, add-zero, add-mul, one-mul, pow-suc, mul-mod_left}
use native.Mathlib.Numerals.{add-one}
use native.Mathlib.Omega.{arith}
use lib.Arith.{lt-one}
use lib.Pow.{pow_pos, pow-add, shl-shr, shr-shr, shr_lt, ones_lt}
use lib.Bits.{bit_and, and_step, and_block, and_self, and_le_r}
use lib.Count.{count_trailing_zeros, under}
use Rattle.counting.specs.Digits.{binary_digit}

-- y is (2 q + 1) 2 ^ b
pub record Lowest (k y b : ℕ) : Type 0 where
  pub above : ℕ
  pub inside : b < k
  pub value : y ≡ (2 * above + 1) * 2 ^ b

-- one place more at the low end
lowest-more : (k y t d : ℕ) → d ≡ y % 2 → 0 < y → (0 < y / 2 → Lowest k (y / 2) t) → Lowest (suc k) y (under d t)
lowest-more k y t zero e h rest =
    let r = rest (omega arith) in
    record {
      above = r.above;
      inside = omega (arith, r.inside);
      value = omega (arith, r.value, mul_assoc (2 * r.above + 1) (2 ^ t) 2, ap (λ (x : ℕ). (2 * r.above + 1) * x) (pow-suc 2 t));
    }
lowest-more k y t (suc zero) e h rest = record { above = y / 2; inside = omega arith; value = omega (arith, mul-one (2 * (y / 2) + 1)) }
lowest-more k y t (suc (suc d)) e h rest = absurd (omega arith)

-- in a word that is not 0 it stands behind the zeros that are counted
pub lowest : (k y : ℕ) → 0 < y → y < 2 ^ k → Lowest k y (count_trailing_zeros k y)
unfolding count_trailing_zeros
lowest zero y h l = absurd (omega (arith, lt-one l))
lowest (suc k) y h l =
    let small : y < 2 ^ (k + 1) = rw (add-one k) l in
    lowest-more k y (count_trailing_zeros k (y / 2)) (y % 2) refl h (λ g. lowest k (y / 2) g (shr_lt k 1 small))

-- ---- digits of a number with b zeros at its low end

-- there are zeros below place b
shifted-below : (a b d : ℕ) → d < b → binary_digit (a * 2 ^ b) d ≡ 0
shifted-below a b d h =
    let e : b ≡ b - (d + 1) + 1 + d = omega arith in
    ap (λ (x : ℕ). binary_digit (a * 2 ^ x) d) e
    ∙ ap (λ (x : ℕ). binary_digit (a * x) d) (pow-add 2 (b - (d + 1) + 1) d)
    ∙ ap (λ (x : ℕ). binary_digit x d) (sym (mul_assoc a (2 ^ (b - (d + 1) + 1)) (2 ^ d)))
    ∙ ap (λ (x : ℕ). x % 2) (shl-shr (a * 2 ^ (b - (d + 1) + 1)) d)
    ∙ ap (λ (x : ℕ). a * x % 2) (pow-add 2 (b - (d + 1)) 1)
    ∙ ap (λ (x : ℕ). x % 2) (sym (mul_assoc a (2 ^ (b - (d + 1))) 2))
    ∙ mul-mod_left (a * 2 ^ (b - (d + 1))) 2

-- and from it on the digits are a's
shifted-from : (a b d : ℕ) → binary_digit (a * 2 ^ b) (b + d) ≡ binary_digit a d
shifted-from a b d =
    ap (λ (x : ℕ). x % 2) (sym (shr-shr (a * 2 ^ b) b d)) ∙ ap (λ (x : ℕ). x / 2 ^ d % 2) (shl-shr a b)

-- ---- odd numbers

-- the number before an odd one has its other digits
odd_even : (q : ℕ) → bit_and (2 * q + 1) (2 * q) ≡ q * 2
odd_even q =
    let h : (2 * q + 1) / 2 ≡ q = omega arith in
    let h' : 2 * q / 2 ≡ q = omega arith in
    let m : (2 * q + 1) % 2 ≡ 1 = omega arith in
    let m' : 2 * q % 2 ≡ 0 = omega arith in
    and_step (2 * q + 1) (2 * q) ∙ ap₂ (λ (x y : ℕ). x * 2 + y) (ap₂ bit_and h h' ∙ and_self q) (ap₂ min m m') ∙ add-zero (q * 2)

-- its digits above the lowest
odd-above : (q d : ℕ) → binary_digit (2 * q + 1) (1 + d) ≡ binary_digit q d
odd-above q d =
    let h : (2 * q + 1) / 2 ^ 1 ≡ q = omega arith in
    ap (λ (x : ℕ). x % 2) (sym (shr-shr (2 * q + 1) 1 d)) ∙ ap (λ (x : ℕ). x / 2 ^ d % 2) h

-- ---- the lowest one

module _ (k y b : ℕ) (w : Lowest k y b) where
  abbrev q : ℕ
  q = w.above

  -- it is a one
  pub lowest-here : binary_digit y b ≡ 1
  lowest-here =
      ap (λ (x : ℕ). binary_digit x b) w.value ∙ ap (λ (x : ℕ). x % 2) (shl-shr (2 * q + 1) b) ∙ omega arith

  -- below it stand zeros
  pub lowest-before : (d : ℕ) → d < b → binary_digit y d ≡ 0
  lowest-before d h = ap (λ (x : ℕ). binary_digit x d) w.value ∙ shifted-below (2 * q + 1) b d h

  -- y - 1 has zeros for its lowest one, and ones below it
  one_less : y - 1 ≡ 2 * q * 2 ^ b + (2 ^ b - 1)
  one_less = omega (arith, w.value, add-mul (2 * q) 1 (2 ^ b), one-mul (2 ^ b), pow_pos b)

  -- y & (y - 1) has no lowest one
  cleared : bit_and y (y - 1) ≡ q * 2 ^ (b + 1)
  cleared =
      ap₂ bit_and (w.value ∙ sym (add-zero ((2 * q + 1) * 2 ^ b))) one_less
      ∙ and_block b (2 * q + 1) (2 * q) 0 (2 ^ b - 1) (pow_pos b) (ones_lt b)
      ∙ add-zero (bit_and (2 * q + 1) (2 * q) * 2 ^ b)
      ∙ ap (λ (x : ℕ). x * 2 ^ b) (odd_even q)
      ∙ mul_assoc q 2 (2 ^ b)
      ∙ ap (λ (x : ℕ). q * x) (mul_comm 2 (2 ^ b) ∙ sym (pow-add 2 b 1))

  -- y & (y - 1) has no one up to it
  pub cleared-here : (d : ℕ) → d ≤ b → binary_digit (bit_and y (y - 1)) d ≡ 0
  cleared-here d h = ap (λ (x : ℕ). binary_digit x d) cleared ∙ shifted-below q (b + 1) d (omega arith)

  -- and above it is y
  pub cleared-above : (d : ℕ) → b < d → binary_digit (bit_and y (y - 1)) d ≡ binary_digit y d
  cleared-above d h =
      let e : d ≡ b + 1 + (d - (b + 1)) = omega arith in
      let e' : b + (1 + (d - (b + 1))) ≡ d = omega arith in
      ap₂ binary_digit cleared e
      ∙ shifted-from q (b + 1) (d - (b + 1))
      ∙ sym (odd-above q (d - (b + 1)))
      ∙ sym (shifted-from (2 * q + 1) b (1 + (d - (b + 1))))
      ∙ ap₂ binary_digit (sym w.value) e'

  -- and is less than y
  pub cleared-less : bit_and y (y - 1) < y
  cleared-less = omega (arith, and_le_r y (y - 1), one_less, w.value, add-mul (2 * q) 1 (2 ^ b), one-mul (2 ^ b), pow_pos b)
