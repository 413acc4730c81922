-- The rows' sets while they are filled.
--   blank t             == what stands in a cell before the first row is placed: 0
--   entry_put i j x     == x with column j added to the set of row i
--   row_put H i k x     == x with the first k entries of row i added to its set
--   rows_put H i x      == x with the rows before row i added so, with all of their entries
--   entry_share i j t   == what one such entry adds to cell t
--   row_share H i k t   == what the first k entries of row i add to cell t
--   rows_share H i t    == what the rows before row i add to it
--   RowFits H i x       == no cell of x outgrows 64 bits when row i is added
-- Assumes nothing.
use Rattle.std.specs.Prelude.{List, ℕ, zero, suc, ◌+◌, ◌*◌, ◌^◌, ◌<◌, set}
use Rattle.counting.specs.Paper.Sum.{sum_below, same}
use Rattle.counting.specs.Places.{at}
use Rattle.matrix.specs.Paper.Code.{Matrix, entry}
use Rattle.matrix_rows.specs.Rows.{word_of, place_of, rows_size}

-- a cell that is cleared
unfoldable pub blank : ℕ → ℕ
blank t = 0

-- column j in the set of row i
unfoldable pub entry_put : ℕ → ℕ → List ℕ → List ℕ
entry_put i j x = set x (16 * i + word_of j) (at x (16 * i + word_of j) + 2 ^ (place_of j))

-- the first k entries of row i
unfoldable pub row_put : Matrix → ℕ → ℕ → List ℕ → List ℕ
row_put H i zero x = x
row_put H i (suc k) x = entry_put i (entry H i k) (row_put H i k x)

-- the rows before row i
unfoldable pub rows_put : Matrix → ℕ → List ℕ → List ℕ
rows_put H zero x = x
rows_put H (suc i) x = row_put H i H.rho (rows_put H i x)

-- what one entry adds to cell t
unfoldable pub entry_share : ℕ → ℕ → ℕ → ℕ
entry_share i j t = same (16 * i + word_of j) t * 2 ^ (place_of j)

-- what the first k entries of row i add to it
unfoldable pub row_share : Matrix → ℕ → ℕ → ℕ → ℕ
row_share H i k t = sum_below k (λ q. entry_share i (entry H i q) t)

-- what the rows before row i add to it
unfoldable pub rows_share : Matrix → ℕ → ℕ → ℕ
rows_share H i t = sum_below i (λ r. row_share H r H.rho t)

-- each cell holds what row i adds
abbrev pub RowFits : Matrix → ℕ → List ℕ → Type 0
RowFits H i x = (t : ℕ) → t < rows_size H → at x t + row_share H i H.rho t < 18446744073709551616
