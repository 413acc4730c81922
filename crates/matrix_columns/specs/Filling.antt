-- The columns' sets while they are filled.
--   blank t                 == what stands in a cell before the first row is placed: 0
--   added t v x             == x with v added to cell t
--   entry_put n i j x       == x with row i added to the set of column j, and counted in its weight, where there are n columns
--   row_put H i k x         == x with row i added at its first k entries
--   rows_put H i x          == x with the rows before row i added at all of theirs
--   entry_share n i j t     == what one such entry adds to cell t
--   row_share H i k t       == what the first k entries of row i add to cell t
--   rows_share H i t        == what the rows before row i add to it
--   RowFits H i x           == no cell of x outgrows 64 bits when row i is added
-- Assumes nothing.
use Rattle.std.specs.Prelude.{List, ℕ, zero, suc, ◌+◌, ◌*◌, ◌/◌, ◌%◌, ◌^◌, ◌<◌, set}
use Rattle.counting.specs.Paper.Sum.{sum_below, same}
use Rattle.counting.specs.Places.{at}
use Rattle.matrix.specs.Paper.Code.{Matrix, entry}
use Rattle.matrix_columns.specs.Columns.{columns_size}

-- a cell that is cleared
unfoldable pub blank : ℕ → ℕ
blank t = 0

-- v more in cell t
unfoldable pub added : ℕ → ℕ → List ℕ → List ℕ
added t v x = set x t (at x t + v)

-- row i in the set of column j, then in its weight
unfoldable pub entry_put : ℕ → ℕ → ℕ → List ℕ → List ℕ
entry_put n i j x = added (16 * n + j) 1 (added (16 * j + i / 64) (2 ^ (i % 64)) x)

-- row i at its first k entries
unfoldable pub row_put : Matrix → ℕ → ℕ → List ℕ → List ℕ
row_put H i zero x = x
row_put H i (suc k) x = entry_put H.n i (entry H i k) (row_put H i k x)

-- the rows before row i at all of theirs
unfoldable pub rows_put : Matrix → ℕ → List ℕ → List ℕ
rows_put H zero x = x
rows_put H (suc i) x = row_put H i H.rho (rows_put H i x)

-- what one entry adds to cell t
unfoldable pub entry_share : ℕ → ℕ → ℕ → ℕ → ℕ
entry_share n i j t = same (16 * j + i / 64) t * 2 ^ (i % 64) + same (16 * n + j) t

-- what the first k entries of row i add to it
unfoldable pub row_share : Matrix → ℕ → ℕ → ℕ → ℕ
row_share H i k t = sum_below k (λ q. entry_share H.n i (entry H i q) t)

-- what the rows before row i add to it
unfoldable pub rows_share : Matrix → ℕ → ℕ → ℕ
rows_share H i t = sum_below i (λ r. row_share H r H.rho t)

-- each cell holds what row i adds
abbrev pub RowFits : Matrix → ℕ → List ℕ → Type 0
RowFits H i x = (t : ℕ) → t < columns_size H → at x t + row_share H i H.rho t < 18446744073709551616
