-- Numbers of six binary digits, sixty-four of them at a time: a plane of sixteen words has one digit of each.
--   six_digits a .. f t          == the number whose digits stand at place t of six words, the lowest first
--   plane_value P w t            == the number at place t of word w of six planes, the lowest digits' plane first
--   sets_count x l from k w t    == in how many of the k sets whose numbers stand in l from a place on, sixteen words each in x, place t of word w is set
--   SetsAt x l k                 == x has the sets that the first k of l are the numbers of
--   SixDigits x l from k         == these counts have six digits
--   PlanesLaid x l from k P      == the planes P have these counts
-- Assumes nothing.
use Rattle.std.specs.Prelude.{◌≡◌, List, ℕ, ◌+◌, ◌*◌, ◌<◌, ◌≤◌, length}
use Rattle.counting.specs.Digits.{binary_digit}
use Rattle.counting.specs.Paper.Sum.{sum_below}
use Rattle.counting.specs.Places.{at}

-- a number of six digits
unfoldable pub six_digits : ℕ → ℕ → ℕ → ℕ → ℕ → ℕ → ℕ → ℕ
six_digits a b c d e f t =
    binary_digit a t + 2 * binary_digit b t + 4 * binary_digit c t + 8 * binary_digit d t + 16 * binary_digit e t + 32 * binary_digit f t

unfoldable pub plane_value : List ℕ → ℕ → ℕ → ℕ
plane_value P w t = six_digits (at P w) (at P (16 + w)) (at P (32 + w)) (at P (48 + w)) (at P (64 + w)) (at P (80 + w)) t

unfoldable pub sets_count : List ℕ → List ℕ → ℕ → ℕ → ℕ → ℕ → ℕ
sets_count x l from k w t = sum_below k (λ q. binary_digit (at x (16 * at l (from + q) + w)) t)

abbrev pub SetsAt : List ℕ → List ℕ → ℕ → Type 0
SetsAt x l k = (q : ℕ) → q < k → (at l q < 1023) × (16 * at l q + 16 ≤ length x)

-- no count is above 63
abbrev pub SixDigits : List ℕ → List ℕ → ℕ → ℕ → Type 0
SixDigits x l from k = (w t : ℕ) → w < 16 → t < 64 → sets_count x l from k w t ≤ 63

-- every count of the sixteen words
pub record PlanesLaid (x l : List ℕ) (from k : ℕ) (P : List ℕ) : Type 0 where
  pub long : length P ≡ 96
  pub each : (w t : ℕ) → w < 16 → t < 64 → plane_value P w t ≡ sets_count x l from k w t
