-- Samples by their patterns and by guesses at their levels' magnitudes.
--   pattern_in bs j              == the pattern of sample j without its sign
--   fits_at t g p                == the table t confirms the guess g for the pattern p
--   misfit t bs gs j             == it does not confirm that of sample j
--   kept_by L u g                == the level of the pattern u and the magnitude g, kept as R + L
--   bit_by u                     == 1 where the pattern u is that of a number above 0, else 0
--   mark_by g z                  == the bit z where the magnitude g is other than 0, else 2
--   bit_in, kept_in, mark_in     == these of sample j
--   Guessed n gs                 == the first n guesses are below 2,048
--   Confirmed L n gs             == no guess is above L, which is at most the largest level that there is
--   Laid n L bs gs ..            == bits, kept levels and marks by the guesses gs are written at the front of the arrays
-- Assumes nothing.
use Rattle.std.specs.Prelude.{◌≡◌, Bool, not, cond, ◌&&◌, List, ℕ, ◌+◌, ◌-◌, ◌*◌, ◌%◌, ◌<◌, ◌≤◌, leb, ltb, eqb, length}
use Rattle.counting.specs.Paper.Lists.{listed, over}
use Rattle.counting.specs.Places.{at}
use Rattle.byte_numbers.specs.Paper.Numbers.{number32}
use Rattle.quantiser_levels.specs.Paper.Samples.{most_level}

-- the sign is the highest of the 32 bits
unfoldable pub pattern_in : List ℕ → ℕ → ℕ
pattern_in bs j = number32 bs (4 * j) % 2147483648

-- the pattern lies from the least of the magnitude g to below that of the next
unfoldable pub fits_at : List ℕ → ℕ → ℕ → Bool
fits_at t g p = leb (at t g) p && ltb p (at t (g + 1))

unfoldable pub misfit : List ℕ → List ℕ → List ℕ → ℕ → Bool
misfit t bs gs j = not (fits_at t (at gs j) (pattern_in bs j))

unfoldable pub kept_by : ℕ → ℕ → ℕ → ℕ
kept_by L u g = cond (ltb u 2147483648) (L + g) (L - g)

unfoldable pub bit_by : ℕ → ℕ
bit_by u = cond (ltb u 2147483648 && ltb 0 u) 1 0

unfoldable pub mark_by : ℕ → ℕ → ℕ
mark_by g z = cond (eqb g 0) 2 z

unfoldable pub bit_in : List ℕ → ℕ → ℕ
bit_in bs j = bit_by (number32 bs (4 * j))

unfoldable pub kept_in : ℕ → List ℕ → List ℕ → ℕ → ℕ
kept_in L bs gs j = kept_by L (number32 bs (4 * j)) (at gs j)

unfoldable pub mark_in : List ℕ → List ℕ → ℕ → ℕ
mark_in bs gs j = mark_by (at gs j) (bit_in bs j)

pub record Guessed (n : ℕ) (gs : List ℕ) : Type 0 where
  pub long : length gs ≡ 1023
  pub below : (j : ℕ) → j < n → at gs j < 2048

pub record Confirmed (L n : ℕ) (gs : List ℕ) : Type 0 where
  pub largest : L ≤ most_level
  pub within : (j : ℕ) → j < n → at gs j ≤ L

-- the bits z, the kept levels x and the marks o become z', x' and o'; the cells past the first n stay
pub record Laid (n L : ℕ) (bs gs z z' x x' o o' : List ℕ) : Type 0 where
  pub bits : z' ≡ over (listed n (bit_in bs)) z
  pub kept : x' ≡ over (listed n (kept_in L bs gs)) x
  pub marks : o' ≡ over (listed n (mark_in bs gs)) o
