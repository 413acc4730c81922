-- Laws of the columns' sets and weights, for those who read them.
--   columns-long      == there are sixteen words and a weight a column
--   columns-short     == at most 17,391 in all
--   columns-sets      == they are the sets of the columns' rows, and the columns' weights
--   weights-small     == a weight is a number of eight bits
--   weights-weighed   == the weights kept as such numbers are the columns' weights
-- Assumes nothing.
use mathlib.Core.Path.{◌≡◌, ap, ap₂, ◌∙◌}
use mathlib.Core.List.{List}
use Prim.Native.Nat.{ℕ, ◌+◌, ◌-◌, ◌*◌, ◌/◌, ◌%◌, ◌<◌, ◌≤◌}
use native.Mathlib.Omega.{arith}
use borrow.Author.Tests.{lt-ltb, le-ltb}
use lib.ListN.{length}
use Rattle.counting.specs.Digits.{binary_digit}
use Rattle.counting.specs.Paper.Lists.{listed, over}
use Rattle.counting.specs.Places.{at}
use Rattle.counting.proofs.Writes.{length-listed, get_or-listed, over-at}
use Rattle.counting.proofs.Bits.{bits-digit}
use Rattle.matrix.specs.Paper.Code.{Matrix, weight}
use Rattle.matrix.specs.Paper.PlainCheck.{Accepted}
use Rattle.matrix.specs.Tallies.{Weighed}
use Rattle.matrix.proofs.Weights.{weight-small}
use Rattle.syndrome_words.specs.Sets.{bit_in, has_row, ColumnSets}
use Rattle.matrix_columns.specs.Columns.{column_word, column_cell, columns_size, columns_of}
use Rattle.matrix_columns.proofs.Shares.{row-bit}

-- there are sixteen words and a weight a column
pub columns-long : (H : Matrix) → length (columns_of H) ≡ columns_size H
unfolding columns_of
columns-long H = length-listed (columns_size H) (column_cell H)

-- at most 17,391 in all
pub columns-short : (H : Matrix) → Accepted H → columns_size H ≤ 17391
unfolding columns_size
columns-short H a = omega (arith, a.sizes.n_most)

-- what stands in a cell
cell_at : (H : Matrix) (t : ℕ) → t < columns_size H → at (columns_of H) t ≡ column_cell H t
unfolding columns_of
cell_at H t l = get_or-listed (columns_size H) (column_cell H) t 0 l

-- a word of a column
cell-word : (H : Matrix) (j w : ℕ) → j < H.n → w < 16 → column_cell H (16 * j + w) ≡ column_word H j w
unfolding column_cell
cell-word H j w l h =
    let d : (16 * j + w) / 16 ≡ j = omega arith in
    let o : (16 * j + w) % 16 ≡ w = omega arith in
    rw (lt-ltb (16 * j + w) (16 * H.n) (omega arith)) (ap₂ (column_word H) d o)

-- its weight
cell-weight : (H : Matrix) (j : ℕ) → column_cell H (16 * H.n + j) ≡ weight H j
unfolding column_cell
cell-weight H j =
    let e : 16 * H.n + j - 16 * H.n ≡ j = omega arith in
    rw (le-ltb (16 * H.n + j) (16 * H.n) (omega arith)) (ap (weight H) e)

-- a bit of a word is a row of the column
word_row : (H : Matrix) → Accepted H → (j i : ℕ) → binary_digit (column_word H j (i / 64)) (i % 64) ≡ has_row H i j
unfolding column_word
word_row H a j i =
    let e : 64 * (i / 64) + i % 64 ≡ i = omega arith in
    bits-digit (λ b. has_row H (64 * (i / 64) + b) j) 64 (λ b l. row-bit H a (64 * (i / 64) + b) j) (i % 64) (omega arith)
    ∙ ap (λ (r : ℕ). has_row H r j) e

-- they are the sets of the columns' rows, and the columns' weights
pub columns-sets : (H : Matrix) → Accepted H → (x : List ℕ) → x ≡ columns_of H → ColumnSets H x
unfolding bit_in columns_size
columns-sets H a x e =
    record {
      room = omega (arith, ap length e, columns-long H);
      short = omega (arith, ap length e, columns-long H, columns-short H a);
      row = λ j i l h.
          ap (λ (z : List ℕ). binary_digit (at z (16 * j + i / 64)) (i % 64)) e
          ∙ ap (λ (y : ℕ). binary_digit y (i % 64)) (cell_at H (16 * j + i / 64) (omega arith) ∙ cell-word H j (i / 64) l (omega arith))
          ∙ word_row H a j i;
      weighs = λ j l. ap (λ (z : List ℕ). at z (16 * H.n + j)) e ∙ cell_at H (16 * H.n + j) (omega arith) ∙ cell-weight H j;
    }

-- a weight is a number of eight bits
pub weights-small : (H : Matrix) → Accepted H → (x : List ℕ) → ColumnSets H x → (j : ℕ) → j < H.n → at x (16 * H.n + j) ≤ 255
weights-small H a x s j l = omega (arith, s.weighs j l, weight-small H a j)

-- the weights kept as such numbers are the columns' weights
pub weights-weighed : (H : Matrix) → Accepted H → (x : List ℕ) → ColumnSets H x → (w old : List ℕ) → length old ≡ 1023
    → w ≡ over (listed H.n (λ j. at x (16 * H.n + j))) old → Weighed H w
weights-weighed H a x s w old long e j l = over-at H.n (λ j. at x (16 * H.n + j)) old w e 0 j l ∙ s.weighs j l
