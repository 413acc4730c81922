-- The index while it is filled, and as the decoders read it.
--   before H i j              == the ones of column j in the rows before row i
--   in_row H i k j            == the ones of column j among the first k entries of row i
--   start_sum w j             == the starting place of column j by the columns' weights w: the sum of those before it
--   row_place H i k           == where row i stands for its k-th entry
--   place_by H s i k          == the same counted from any starting places s
--   Cursors H s i k c         == c has, for each column, where by these its next row goes after the rows before row i and k entries of row i
--   row_put H i k x           == x with row i written at the places of its first k entries
--   rows_put H i x            == x with the rows before row i written at all of theirs
--   Passed H s i k c c'       == c became such cursors c'; those past the columns stay
-- Assumes nothing.
use Rattle.std.specs.Prelude.{ℕ, zero, suc, ◌+◌, ◌≤◌, ◌<◌, ◌≡◌, List, length, set}
use Rattle.counting.specs.Paper.Sum.{sum_below, same}
use Rattle.counting.specs.Places.{at}
use Rattle.matrix.specs.Paper.Code.{Matrix, entry, has}
use Rattle.matrix_index.specs.Paper.Index.{column_start}

-- the ones of column j in the rows before row i
unfoldable pub before : Matrix → ℕ → ℕ → ℕ
before H i j = sum_below i (λ r. has H r j)

-- the ones of column j among the first k entries of row i
unfoldable pub in_row : Matrix → ℕ → ℕ → ℕ → ℕ
in_row H i k j = sum_below k (λ q. same (entry H i q) j)

-- the starting places by the columns' weights
unfoldable pub start_sum : List ℕ → ℕ → ℕ
start_sum w j = sum_below j (at w)

-- the place of row i in the part of its k-th column
unfoldable pub row_place : Matrix → ℕ → ℕ → ℕ
row_place H i k = suc H.n + (column_start H (entry H i k) + before H i (entry H i k))

-- the same by any starting places: nothing is asked of the weights
unfoldable pub place_by : Matrix → (ℕ → ℕ) → ℕ → ℕ → ℕ
place_by H s i k = suc H.n + (s (entry H i k) + before H i (entry H i k))

-- for each column, how many row numbers stand before its next one
pub record Cursors (H : Matrix) (s : ℕ → ℕ) (i k : ℕ) (c : List ℕ) : Type 0 where
  pub long : length c ≡ 1023
  pub each : (j : ℕ) → j < H.n → at c j ≡ s j + (before H i j + in_row H i k j)

-- row i at the places of its first k entries
unfoldable pub row_put : Matrix → ℕ → ℕ → List ℕ → List ℕ
row_put H i zero x = x
row_put H i (suc k) x = set (row_put H i k x) (row_place H i k) i

-- the rows before row i at all of theirs
unfoldable pub rows_put : Matrix → ℕ → List ℕ → List ℕ
rows_put H zero x = x
rows_put H (suc i) x = row_put H i H.rho (rows_put H i x)

-- the cursors c become c'
pub record Passed (H : Matrix) (s : ℕ → ℕ) (i k : ℕ) (c c' : List ℕ) : Type 0 where
  pub cursors : Cursors H s i k c'
  pub beyond : (j : ℕ) → H.n ≤ j → at c' j ≡ at c j
