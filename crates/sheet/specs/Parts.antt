-- What the proofs of code and theorems speak of between a sheet and its matrix.
--   place_at bs r k        == the block column of the k-th set place of block row r
--   entry_of bs r i k      == the k-th column number of row i of block row r, by that place and the k-th shift of the block row
--   first_entry H Z r k    == the k-th column number of the first row of block row r
--   turned Z e i           == the column i rows further down in the same shifted block
--   Grid H Z               == the matrix is a grid of blocks of size Z: first rows with at most one entry to a block, the other rows turned
-- Assumes nothing.
use Rattle.std.specs.Prelude.{ℕ, suc, ◌+◌, ◌*◌, ◌/◌, ◌%◌, ◌<◌, ◌≡◌, List}
use Rattle.counting.specs.Paper.Joined.{chosen}
use Rattle.counting.specs.Places.{at}
use Rattle.matrix.specs.Paper.Code.{Matrix, entry}
use Rattle.sheet.specs.Paper.Sheet.{block_columns, block_size, set_at, set_in, shift_at}

-- the set places of a block row, ascending
unfoldable pub place_at : List ℕ → ℕ → ℕ → ℕ
place_at bs r k = at (chosen (block_columns bs) (set_at bs r)) k

-- the k-th entry: each block row before has as many shifts as the first
unfoldable pub entry_of : List ℕ → ℕ → ℕ → ℕ → ℕ
entry_of bs r i k = place_at bs r k * block_size bs + (i + shift_at bs (r * set_in bs 0 + k)) % block_size bs

-- the first row of block row r is row r × Z
unfoldable pub first_entry : Matrix → ℕ → ℕ → ℕ → ℕ
first_entry H Z r k = entry H (r * Z) k

-- further down by i rows in a shifted identity block
unfoldable pub turned : ℕ → ℕ → ℕ → ℕ
turned Z e i = e / Z * Z + (i + e % Z) % Z

-- the matrix is a grid of zero and shifted identity blocks of size Z
pub record Grid (H : Matrix) (Z : ℕ) : Type 0 where
  pub some : 0 < Z
  pub wide : H.n / Z * Z ≡ H.n
  pub high : H.m / Z * Z ≡ H.m
  pub apart : (r k : ℕ) → r < H.m / Z → suc k < H.rho → first_entry H Z r k / Z < first_entry H Z r (suc k) / Z
  pub follows : (r i k : ℕ) → r < H.m / Z → i < Z → k < H.rho → entry H (r * Z + i) k ≡ turned Z (first_entry H Z r k) i
