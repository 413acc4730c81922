-- Laws of the rows' sets, for those who read them.
--   rows_long    == there are sixteen words a row
--   rows_short   == at most 16,368 in all
--   rows-sets    == they are the sets of the rows' columns
-- Assumes nothing.
use mathlib.Core.Path.{◌≡◌, ap, ap₂, ◌∙◌}
use Prim.Native.Nat.{ℕ, ◌+◌, ◌*◌, ◌/◌, ◌%◌, ◌<◌, ◌≤◌}
use native.Mathlib.Omega.{arith}
use lib.ListN.{length}
use Rattle.counting.specs.Digits.{binary_digit}
use Rattle.counting.specs.Places.{at}
use Rattle.counting.proofs.Bits.{bits-digit}
use Rattle.counting.proofs.Writes.{length-listed, get_or-listed}
use Rattle.matrix.specs.Paper.Code.{Matrix, has}
use Rattle.matrix.specs.Paper.PlainCheck.{Accepted}
use Rattle.matrix.proofs.Rows.{has-le}
use Rattle.matrix_rows.specs.Rows.{word_of, place_of, column_at, row_word, row_cell, rows_size, rows_of, RowSets}
use Rattle.matrix_rows.proofs.Shares.{word_low, place-low, column-is}
use Rattle.matrix_rows.proofs.Filling.{room-is}

-- there are sixteen words a row
pub rows_long : (H : Matrix) → length (rows_of H) ≡ rows_size H
unfolding rows_of
rows_long H = length-listed (rows_size H) (row_cell H)

-- at most 16,368 in all
pub rows_short : (H : Matrix) → Accepted H → rows_size H ≤ 16368
unfolding rows_size
rows_short H a = omega (arith, a.sizes.m_most)

-- a row's words are among them
word-there : (H : Matrix) (i j : ℕ) → i < H.m → 16 * i + word_of j < rows_size H
unfolding rows_size
word-there H i j h = omega (arith, word_low j)

-- what stands in a cell
cell_at : (H : Matrix) (t : ℕ) → t < rows_size H → at (rows_of H) t ≡ row_cell H t
unfolding rows_of
cell_at H t l = get_or-listed (rows_size H) (row_cell H) t 0 l

-- a word of a row
cell-word : (H : Matrix) (i w : ℕ) → w < 16 → row_cell H (16 * i + w) ≡ row_word H i w
unfolding row_cell
cell-word H i w h =
    let d : (16 * i + w) / 16 ≡ i = omega arith in
    let o : (16 * i + w) % 16 ≡ w = omega arith in
    ap₂ (row_word H) d o

-- a bit of a word is a column of the row
word-column : (H : Matrix) → Accepted H → (i j : ℕ) → i < H.m → j < 1024 → binary_digit (row_word H i (word_of j)) (place_of j) ≡ has H i j
unfolding row_word
word-column H a i j h l =
    bits-digit (λ b. has H i (column_at (word_of j) b)) 64 (λ b g. has-le H a.rows i (column_at (word_of j) b) h) (place_of j) (place-low j l)
    ∙ ap (has H i) (column-is j l)

-- they are the sets of the rows' columns
pub rows-sets : (H : Matrix) → Accepted H → RowSets H (rows_of H)
rows-sets H a =
    record {
      room = room-is H (omega (arith, rows_long H));
      column = λ i j h l.
          ap (λ (y : ℕ). binary_digit y (place_of j)) (cell_at H (16 * i + word_of j) (word-there H i j h) ∙ cell-word H i (word_of j) (word_low j))
          ∙ word-column H a i j h l;
    }
