-- Binary digits of `&`, `|` and `^`.
--   digit_and, digit_or, digit-xor   == a digit of `&`, `|` and `^` is that of the two digits
--   or-one                           == a bit `|` 1 is 1
--   one-here, one-there              == digit k of 2 ^ k is 1, and no other is
--   or-here, or-there                == `|` with 2 ^ k sets digit k and leaves the others
-- Assumes nothing.
use mathlib.Core.Path.{◌≡◌, refl, ap, ◌∙◌}
use Prim.Native.Nat.{ℕ, zero, suc, ◌+◌, ◌-◌, ◌/◌, ◌%◌, ◌^◌, ◌<◌}
use native.Mathlib.Nat.{div_self, div-eq_of_lt, mul-div_cancel, mul-mod_left}
use native.Mathlib.Decide.{dec_lt}
use native.Mathlib.Omega.{arith}
use lib.Pow.{pow_pos, pow-lt, pow-add}
use lib.Bits.{bit_and, bit_or, bit_xor, and_shr, and_mod, or_shr, or_mod, or_zero_r, xor_shr, xor_mod}
use Rattle.counting.specs.Digits.{binary_digit}

-- a digit of `&`, `|` and `^` is that of the two digits
pub digit_and : (a b k : ℕ) → binary_digit (bit_and a b) k ≡ bit_and (binary_digit a k) (binary_digit b k)
digit_and a b k = ap (λ (x : ℕ). x % 2) (and_shr a b k) ∙ and_mod (a / 2 ^ k) (b / 2 ^ k) 1

pub digit_or : (a b k : ℕ) → binary_digit (bit_or a b) k ≡ bit_or (binary_digit a k) (binary_digit b k)
digit_or a b k = ap (λ (x : ℕ). x % 2) (or_shr a b k) ∙ or_mod (a / 2 ^ k) (b / 2 ^ k) 1

pub digit-xor : (a b k : ℕ) → binary_digit (bit_xor a b) k ≡ bit_xor (binary_digit a k) (binary_digit b k)
digit-xor a b k = ap (λ (x : ℕ). x % 2) (xor_shr a b k) ∙ xor_mod (a / 2 ^ k) (b / 2 ^ k) 1

-- a digit that is set stays set
pub or-one : (x : ℕ) → x < 2 → bit_or x 1 ≡ 1
or-one zero h = refl
or-one (suc zero) h = refl
or-one (suc (suc x)) h = absurd (omega arith)

-- ---- the only digit of 2 ^ k

-- digit k of 2 ^ k is 1, and no other is
pub one-here : (k : ℕ) → binary_digit (2 ^ k) k ≡ 1
one-here k = ap (λ (x : ℕ). x % 2) (div_self (pow_pos k))

one-above : (d l : ℕ) → binary_digit (2 ^ (d + 1 + l)) l ≡ 0
one-above d l =
    ap (λ (x : ℕ). x / 2 ^ l % 2) (pow-add 2 (d + 1) l) ∙ ap (λ (x : ℕ). x % 2) (mul-div_cancel (2 ^ (d + 1)) (pow_pos l))
    ∙ ap (λ (x : ℕ). x % 2) (pow-add 2 d 1) ∙ mul-mod_left (2 ^ d) 2

pub one-there : (k l : ℕ) → (l ≡ k → ⊥) → binary_digit (2 ^ k) l ≡ 0
one-there k l h =
    elim (dec_lt l k) [
      | yes a ↦
          let e : k ≡ k - (l + 1) + 1 + l = omega arith in
          ap (λ (x : ℕ). binary_digit (2 ^ x) l) e ∙ one-above (k - (l + 1)) l
      | no n ↦ ap (λ (x : ℕ). x % 2) (div-eq_of_lt (pow-lt {i = k} {j = l} (omega arith)))
    ]

-- `|` with 2 ^ k sets digit k and leaves the others
pub or-here : (b k : ℕ) → binary_digit (bit_or b (2 ^ k)) k ≡ 1
or-here b k = digit_or b (2 ^ k) k ∙ ap (bit_or (binary_digit b k)) (one-here k) ∙ or-one (binary_digit b k) (omega arith)

pub or-there : (b k l : ℕ) → (l ≡ k → ⊥) → binary_digit (bit_or b (2 ^ k)) l ≡ binary_digit b l
or-there b k l h = digit_or b (2 ^ k) l ∙ ap (bit_or (binary_digit b l)) (one-there k l h) ∙ or_zero_r (binary_digit b l)
