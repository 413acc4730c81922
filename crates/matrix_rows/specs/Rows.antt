-- The rows of a matrix as sets of columns, sixteen words a row.
--   word_of j         == the word of a row in which column j stands
--   place_of j        == and its place there: the eight columns from a multiple of eight on stand eight places apart, so that they are the same place of the word's eight bytes
--   column_at w b     == the column at place b of word w
--   row_word H i w    == word w of row i
--   row_cell H t      == cell t: sixteen words a row, row after row
--   rows_size H       == how many cells there are
--   rows_of H         == all of them
--   RowSets H x       == x has the set of each row's columns
-- Assumes nothing.
use Rattle.std.specs.Prelude.{◌≡◌, List, ℕ, ◌+◌, ◌*◌, ◌/◌, ◌%◌, ◌^◌, ◌<◌, ◌≤◌, length}
use Rattle.counting.specs.Digits.{binary_digit}
use Rattle.counting.specs.Paper.Sum.{sum_below}
use Rattle.counting.specs.Paper.Lists.{listed}
use Rattle.counting.specs.Places.{at}
use Rattle.matrix.specs.Paper.Code.{Matrix, has}

abbrev pub word_of : ℕ → ℕ
word_of j = j / 8 % 16

abbrev pub place_of : ℕ → ℕ
place_of j = 8 * (j % 8) + j / 128

-- column j is column_at (word_of j) (place_of j)
abbrev pub column_at : ℕ → ℕ → ℕ
column_at w b = 128 * (b % 8) + 8 * w + b / 8

unfoldable pub row_word : Matrix → ℕ → ℕ → ℕ
row_word H i w = sum_below 64 (λ b. has H i (column_at w b) * 2 ^ b)

unfoldable pub row_cell : Matrix → ℕ → ℕ
row_cell H t = row_word H (t / 16) (t % 16)

unfoldable pub rows_size : Matrix → ℕ
rows_size H = 16 * H.m

unfoldable pub rows_of : Matrix → List ℕ
rows_of H = listed (rows_size H) (row_cell H)

-- the words of row i stand from 16 i on
pub record RowSets (H : Matrix) (x : List ℕ) : Type 0 where
  pub room : 16 * H.m ≤ length x
  pub column : (i j : ℕ) → i < H.m → j < 1024 → binary_digit (at x (16 * i + word_of j)) (place_of j) ≡ has H i j
