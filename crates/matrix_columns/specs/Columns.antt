-- The columns of a matrix as sets of rows.
--   column_word H j w   == word w of column j: bit b is that of row 64 w + b
--   column_cell H t     == cell t: sixteen words a column, column after column, then the columns' weights
--   columns_size H      == how many cells there are
--   columns_of H        == all of them
-- Assumes nothing.
use Rattle.std.specs.Prelude.{cond, List, ℕ, ◌+◌, ◌-◌, ◌*◌, ◌/◌, ◌%◌, ◌^◌, ltb}
use Rattle.counting.specs.Paper.Sum.{sum_below}
use Rattle.counting.specs.Paper.Lists.{listed}
use Rattle.matrix.specs.Paper.Code.{Matrix, weight}
use Rattle.syndrome_words.specs.Sets.{has_row}

-- the lowest place is that of the first row
unfoldable pub column_word : Matrix → ℕ → ℕ → ℕ
column_word H j w = sum_below 64 (λ b. has_row H (64 * w + b) j * 2 ^ b)

unfoldable pub column_cell : Matrix → ℕ → ℕ
column_cell H t = cond (ltb t (16 * H.n)) (column_word H (t / 16) (t % 16)) (weight H (t - 16 * H.n))

unfoldable pub columns_size : Matrix → ℕ
columns_size H = 17 * H.n

unfoldable pub columns_of : Matrix → List ℕ
columns_of H = listed (columns_size H) (column_cell H)
