-- Sets of checks, kept as words of 64 bits: sixteen words for the at most 1,023 checks of a matrix.
--   bit_in x from i      == bit i of the set that stands in the words of x from a place on: word i / 64, place i % 64
--   has_row H i j        == 1 where H has a row i and that row has column j, else 0
--   ColumnSets H x       == x has the set of each column's rows, sixteen words a column, and behind all of them the columns' weights
--   Within m p           == no bit of the set p is set from m on
--   SetParities H z p    == p is the set of the checks of the word z that fail
--   set_failing H p      == how many checks the set p has
--   set_votes H p j      == how many checks of bit j the set p has
--   SetVotes H p v       == the array v has that of each bit
--   only_in a b i        == 1 where the set a has i and the set b has not
-- Assumes nothing.
use Rattle.std.specs.Prelude.{◌≡◌, cond, List, ℕ, ◌+◌, ◌-◌, ◌*◌, ◌/◌, ◌%◌, ◌<◌, ◌≤◌, ltb, length}
use Rattle.counting.specs.Digits.{binary_digit}
use Rattle.counting.specs.Paper.Sum.{sum_below}
use Rattle.counting.specs.Places.{at}
use Rattle.matrix.specs.Paper.Code.{Matrix, has, weight, fails}

-- the lowest place of a word is its first bit
unfoldable pub bit_in : List ℕ → ℕ → ℕ → ℕ
bit_in x from i = binary_digit (at x (from + i / 64)) (i % 64)

-- a row that is not there has no column
unfoldable pub has_row : Matrix → ℕ → ℕ → ℕ
has_row H i j = cond (ltb i H.m) (has H i j) 0

-- the words of column j stand from 16 j on, its weight at 16 n + j
pub record ColumnSets (H : Matrix) (x : List ℕ) : Type 0 where
  pub room : 17 * H.n ≤ length x
  pub short : length x ≤ 17391
  pub row : (j i : ℕ) → j < H.n → i < 1024 → bit_in x (16 * j) i ≡ has_row H i j
  pub weighs : (j : ℕ) → j < H.n → at x (16 * H.n + j) ≡ weight H j

abbrev pub Within : ℕ → List ℕ → Type 0
Within m p = (i : ℕ) → m ≤ i → i < 1024 → bit_in p 0 i ≡ 0

pub record SetParities (H : Matrix) (z : ℕ → ℕ) (p : List ℕ) : Type 0 where
  pub long : length p ≡ 16
  pub each : (i : ℕ) → i < H.m → bit_in p 0 i ≡ fails H z i
  pub past : Within H.m p

unfoldable pub set_failing : Matrix → List ℕ → ℕ
set_failing H p = sum_below H.m (bit_in p 0)

unfoldable pub set_votes : Matrix → List ℕ → ℕ → ℕ
set_votes H p j = sum_below H.m (λ i. has H i j * bit_in p 0 i)

pub record SetVotes (H : Matrix) (p v : List ℕ) : Type 0 where
  pub long : length v ≡ 1023
  pub each : (j : ℕ) → at v j ≡ set_votes H p j

unfoldable pub only_in : List ℕ → List ℕ → ℕ → ℕ
only_in a b i = bit_in a 0 i * (1 - bit_in b 0 i)
