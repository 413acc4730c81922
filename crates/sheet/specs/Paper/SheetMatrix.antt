-- The matrix of a sheet. (Document 02, card 5.)
--   shift_of bs r c         == the shift of the set block in block row r and block column c
--   one_in bs r i c         == the column at which row i of that block has its one
--   row_in bs r i           == the column numbers of row i of block row r
--   matrix_of_sheet bs      == the sizes and the list
-- Assumes nothing.
use Rattle.std.specs.Prelude.{ℕ, ◌+◌, ◌*◌, ◌%◌, List, replicate}
use Rattle.counting.specs.Paper.Sum.{sum_below, least}
use Rattle.counting.specs.Paper.Joined.{joined}
use Rattle.matrix.specs.Paper.Code.{Matrix, matrix}
use Rattle.sheet.specs.Paper.Sheet.{block_rows, block_columns, block_size, set_at, set_in, set_down, shift_at}

-- "one 16-bit shift .. for each place that is set": as many shifts stand before it as places are set before its own
unfoldable pub shift_of : List ℕ → ℕ → ℕ → ℕ
shift_of bs r c = shift_at bs (sum_below r (set_in bs) + sum_below c (set_at bs r))

-- "In a set block, row i has its one at column (i + shift) modulo Z of that block"
unfoldable pub one_in : List ℕ → ℕ → ℕ → ℕ → ℕ
one_in bs r i c = c * block_size bs + (i + shift_of bs r c) % block_size bs

-- a set block has one of them, "A clear place is a block of zeros"
unfoldable pub row_in : List ℕ → ℕ → ℕ → List ℕ
row_in bs r i = joined (block_columns bs) (λ c. replicate (set_at bs r c) (one_in bs r i c))

-- "The sheet's n is K × Z, its m is J × Z, ρ the set places in each block row, and γ the fewest set places in a block column":
-- none has more than J
unfoldable pub matrix_of_sheet : List ℕ → Matrix
matrix_of_sheet bs =
    matrix (block_columns bs * block_size bs) (block_rows bs * block_size bs) (set_in bs 0) (least (block_rows bs) (block_columns bs) (set_down bs))
    (joined (block_rows bs) (λ r. joined (block_size bs) (row_in bs r)))
