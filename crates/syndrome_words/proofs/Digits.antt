-- The ones of a word, digit by digit.
--   ones_split    == the ones of a number are its lowest k digits and the ones of the rest
--   ones-digits   == a number of 64 digits has as many ones as these add up to
-- Assumes nothing.
use mathlib.Core.Path.{◌≡◌, refl, ap, ◌∙◌}
use Prim.Native.Nat.{ℕ, zero, suc, ◌+◌, ◌/◌, ◌^◌, ◌<◌}
use native.Mathlib.Nat.{div-eq_of_lt}
use native.Mathlib.Numerals.{add-one}
use native.Mathlib.Omega.{arith}
use lib.Pow.{shr-shr}
use lib.Count.{ones, ones_step}
use Rattle.counting.specs.Digits.{binary_digit}
use Rattle.counting.specs.Paper.Sum.{sum_below}

-- the lowest digit of what is left, and the ones above it
ones-shifted : (v k : ℕ) → ones (v / 2 ^ k) ≡ binary_digit v k + ones (v / 2 ^ suc k)
ones-shifted v k =
    ones_step (v / 2 ^ k) ∙ ap (λ (x : ℕ). binary_digit v k + ones x) (shr-shr v k 1 ∙ ap (λ (x : ℕ). v / 2 ^ x) (add-one k))

-- the lowest k digits, and the ones above them
pub ones_split : (v k : ℕ) → ones v ≡ sum_below k (binary_digit v) + ones (v / 2 ^ k)
unfolding sum_below
ones_split v zero = let e : v ≡ v / 1 = omega arith in omega (arith, ap ones e)
ones_split v (suc k) = omega (arith, ones_split v k, ones-shifted v k)

ones-zero : ones 0 ≡ 0
unfolding ones
ones-zero = refl

-- the ones of a word of 64 digits
pub ones-digits : (x : ℕ) → x < 2 ^ 64 → ones x ≡ sum_below 64 (binary_digit x)
ones-digits x h = omega (arith, ones_split x 64, ap ones (div-eq_of_lt h) ∙ ones-zero)
