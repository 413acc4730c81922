-- Digits of a byte in which one bit is turned over by a shifted 1, and of a byte that gets one bit more.
--   xor-here, xor-there   == `^` with 2 ^ k turns digit k over and leaves the others
--   shl_one               == 1 shifted by less than 8 places stays in a byte
--   shl-or                == a byte below 128 gets one bit more at the low end
-- Assumes nothing.
use mathlib.Core.Path.{◌≡◌, refl, ap, ◌∙◌}
use Prim.Native.Nat.{ℕ, zero, suc, ◌+◌, ◌*◌, ◌-◌, ◌%◌, ◌^◌, ◌<◌}
use native.Mathlib.Nat.{one-mul}
use native.Mathlib.Omega.{arith}
use lib.Pow.{shl_exact}
use lib.Bits.{bit_or, bit_xor, xor_zero_r, or_shifted}
use Rattle.counting.specs.Digits.{binary_digit}
use Rattle.counting.proofs.Digits.{digit-xor, one-here, one-there}

-- ---- one digit turned over

xor-one : (x : ℕ) → x < 2 → bit_xor x 1 ≡ 1 - x
xor-one zero h = refl
xor-one (suc zero) h = refl
xor-one (suc (suc x)) h = absurd (omega arith)

-- `^` with 2 ^ k turns digit k over and leaves the others
pub xor-here : (b k : ℕ) → binary_digit (bit_xor b (2 ^ k)) k ≡ 1 - binary_digit b k
xor-here b k = digit-xor b (2 ^ k) k ∙ ap (bit_xor (binary_digit b k)) (one-here k) ∙ xor-one (binary_digit b k) (omega arith)

pub xor-there : (b k l : ℕ) → (l ≡ k → ⊥) → binary_digit (bit_xor b (2 ^ k)) l ≡ binary_digit b l
xor-there b k l h = digit-xor b (2 ^ k) l ∙ ap (bit_xor (binary_digit b l)) (one-there k l h) ∙ xor_zero_r (binary_digit b l)

-- ---- shifts that a byte has room for

-- 1 shifted by less than 8 places stays in a byte
pub shl_one : (k : ℕ) → k < 8 → 1 * 2 ^ k % 256 ≡ 2 ^ k
shl_one k h = shl_exact {a = 1} 1 k 8 (omega arith) (omega arith) ∙ one-mul (2 ^ k)

-- one bit more at the low end
pub shl-or : (b x : ℕ) → b < 128 → x < 2 → bit_or (b * 2 % 256) x ≡ 2 * b + x
shl-or b x h l =
    let e : b * 2 % 256 ≡ b * 2 = omega arith in
    rw e (or_shifted b 1 x l ∙ omega arith)
