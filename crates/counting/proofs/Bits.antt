-- Laws of words made of bits: sums of powers of two, each taken once or not at all.
--   bits_below   == the first k bits of a word make less than 2 ^ k
--   bits-digit   == and each is a binary digit of it
--   one_bit      == 1 shifted to a place below 64 is the power of two
-- Assumes nothing.
use mathlib.Core.Path.{◌≡◌, sym, ap, ◌∙◌}
use mathlib.Core.Logic.{inl, inr}
use Prim.Native.Nat.{ℕ, zero, suc, ◌+◌, ◌-◌, ◌*◌, ◌/◌, ◌%◌, ◌^◌, ◌<◌, ◌≤◌}
use native.Mathlib.Nat.{not-suc-le-zero, pow-suc, one-mul, zero-mul, mul_assoc, add-mul-div_right, eq-zero-or-pos}
use native.Mathlib.Decide.{ℕ_discrete}
use native.Mathlib.Omega.{arith}
use lib.Pow.{pow_pos, pow-add, high, shl_exact}
use Rattle.counting.specs.Digits.{binary_digit}
use Rattle.counting.specs.Paper.Sum.{sum_below}

-- a bit further up leaves the digits below
further : (s y k d : ℕ) → binary_digit (s + y * 2 ^ (d + 1 + k)) k ≡ binary_digit s k
further s y k d =
    let e : y * 2 ^ (d + 1 + k) ≡ y * 2 ^ (d + 1) * 2 ^ k = ap (λ (p : ℕ). y * p) (pow-add 2 (d + 1) k) ∙ sym (mul_assoc y (2 ^ (d + 1)) (2 ^ k)) in
    let q : (s + y * 2 ^ (d + 1 + k)) / 2 ^ k ≡ s / 2 ^ k + y * 2 ^ (d + 1) =
    ap (λ (p : ℕ). (s + p) / 2 ^ k) e ∙ add-mul-div_right s (y * 2 ^ (d + 1)) (pow_pos k) in
    let twice : y * 2 ^ (d + 1) ≡ y * 2 ^ d * 2 = ap (λ (p : ℕ). y * p) (pow-add 2 d 1) ∙ sym (mul_assoc y (2 ^ d) 2) in
    omega (arith, q, twice)

module _ (f : ℕ → ℕ) where
  -- the first k bits of a word
  pub bits_below : (k : ℕ) → ((b : ℕ) → b < k → f b ≤ 1) → sum_below k (λ b. f b * 2 ^ b) < 2 ^ k
  unfolding sum_below
  bits_below zero h = omega arith
  bits_below (suc k) h =
      let so : sum_below k (λ b. f b * 2 ^ b) < 2 ^ k = bits_below k (λ b l. h b (omega arith)) in
      elim (eq-zero-or-pos (f k)) [
        | inl e ↦ omega (arith, so, pow-suc 2 k, ap (λ (y : ℕ). y * 2 ^ k) e, zero-mul (2 ^ k))
        | inr p ↦
            let e : f k ≡ 1 = omega (arith, h k (omega arith)) in
            omega (arith, so, pow-suc 2 k, ap (λ (y : ℕ). y * 2 ^ k) e, one-mul (2 ^ k))
      ]

  -- each is a digit
  pub bits-digit : (k : ℕ) → ((b : ℕ) → b < k → f b ≤ 1) → (b : ℕ) → b < k → binary_digit (sum_below k (λ c. f c * 2 ^ c)) b ≡ f b
  unfolding sum_below
  bits-digit zero h b l = absurd (not-suc-le-zero l)
  bits-digit (suc k) h b l =
      elim (ℕ_discrete b k) [
        | yes e ↦ rw e (ap (λ (y : ℕ). y % 2) top ∙ last)
        | no ne ↦
            let e : k ≡ k - (b + 1) + 1 + b = omega arith in
            ap (λ (p : ℕ). binary_digit (sum_below k (λ c. f c * 2 ^ c) + f k * 2 ^ p) b) e
            ∙ further (sum_below k (λ c. f c * 2 ^ c)) (f k) b (k - (b + 1))
            ∙ bits-digit k (λ c g. h c (omega arith)) b (omega arith)
      ]
    where
      top : (sum_below k (λ c. f c * 2 ^ c) + f k * 2 ^ k) / 2 ^ k ≡ f k
      top =
          let e : sum_below k (λ c. f c * 2 ^ c) + f k * 2 ^ k ≡ f k * 2 ^ k + sum_below k (λ c. f c * 2 ^ c) = omega arith in
          ap (λ (y : ℕ). y / 2 ^ k) e ∙ high (f k) k (bits_below k (λ c g. h c (omega arith)))

      last : f k % 2 ≡ f k
      last = omega (arith, h k (omega arith))

-- 1 shifted to a place below 64 is the power of two
pub one_bit : (a k j : ℕ) → a ≡ 1 → k ≡ j → k < 64 → (a * 2 ^ k) % 18446744073709551616 ≡ 2 ^ j
one_bit a k j one e h = rw (one, ← e) (shl_exact {a = 1} 1 k 64 (omega arith) (omega arith) ∙ one-mul (2 ^ k))
