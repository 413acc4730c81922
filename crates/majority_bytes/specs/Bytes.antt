-- Numbers of six digits, brought from planes to bytes.
--   spread_of x s        == the digits at places s, 8 + s, .. 56 + s of x, each as a byte of one word
--   wide_of v s          == the same of numbers v t: those at these places, each as a byte of one word
--   byte_of x r          == byte r of a word
--   BytesLaid P bs      == byte j is the number at place 8 (j % 8) + j / 128 of word j / 8 % 16 of the planes P
-- Assumes nothing.
use Rattle.std.specs.Prelude.{◌≡◌, List, ℕ, ◌+◌, ◌*◌, ◌/◌, ◌%◌, ◌^◌, ◌<◌, length}
use Rattle.counting.specs.Digits.{binary_digit}
use Rattle.counting.specs.Paper.Sum.{sum_below}
use Rattle.counting.specs.Places.{at}
use Rattle.majority_planes.specs.Planes.{plane_value}

unfoldable pub wide_of : (ℕ → ℕ) → ℕ → ℕ
wide_of v s = sum_below 8 (λ r. v (8 * r + s) * 256 ^ r)

unfoldable pub spread_of : ℕ → ℕ → ℕ
spread_of x s = wide_of (binary_digit x) s

unfoldable pub byte_of : ℕ → ℕ → ℕ
byte_of x r = x / 256 ^ r % 256

pub record BytesLaid (P bs : List ℕ) : Type 0 where
  pub long : length bs ≡ 1024
  pub each : (j : ℕ) → j < 1024 → at bs j ≡ plane_value P (j / 8 % 16) (8 * (j % 8) + j / 128)
