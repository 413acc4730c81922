-- A lent index compared with an ordered matrix, number by number, whatever its columns weigh.
--   Stands H x i k            == row i stands in x at the place of its k-th entry, counted from x's own starting places
--   RowStands H x i           == it does at those of all of its entries
--   Parts H x                 == each column's part in x is as long as the column has ones
--   Own H x                   == x has the matrix's starting places, from 0 on, and its rows
--   RowReplayed H i x c c' r  == r says whether row i stands at all of its places; the cursors c become c', moved on where it stands
--   RowsReplayed H x r        == r says whether all rows do, and every column's part ends where the next starts
--   Replayed H x r            == r says whether x is the matrix's own
-- proofs/Own.antt shows that of an accepted matrix `index_of H` alone is its own. Assumes nothing.
use Rattle.std.specs.Prelude.{ℕ, ◌+◌, ◌<◌, ◌≡◌, Bool, true, false, List, length}
use Rattle.counting.specs.Places.{at}
use Rattle.matrix.specs.Paper.Code.{Matrix, weight}
use Rattle.matrix_index.specs.Paper.Index.{index_size}
use Rattle.matrix_index.specs.Filling.{place_by, Passed}

-- row i stands where it goes for its k-th entry
pub record Stands (H : Matrix) (x : List ℕ) (i k : ℕ) : Type 0 where
  pub inside : place_by H (at x) i k < length x
  pub is : at x (place_by H (at x) i k) ≡ i

-- row i stands at all of its places
abbrev pub RowStands : Matrix → List ℕ → ℕ → Type 0
RowStands H x i = (k : ℕ) → k < H.rho → Stands H x i k

-- the next column starts where the column's ones end
abbrev pub Parts : Matrix → List ℕ → Type 0
Parts H x = (j : ℕ) → j < H.n → at x (j + 1) ≡ at x j + weight H j

-- x has the matrix's starting places and rows
pub record Own (H : Matrix) (x : List ℕ) : Type 0 where
  pub long : length x ≡ index_size H
  pub begins : at x 0 ≡ 0
  pub parts : Parts H x
  pub rows : (i : ℕ) → i < H.m → RowStands H x i

-- what is said of row i: it stands at the places of the entries that are passed, and these are all, or it does not stand at the next
pub record RowReplayed (H : Matrix) (i : ℕ) (x c c' : List ℕ) (r : Bool) : Type 0 where
  pub upto : ℕ
  pub cursors : Passed H (at x) i upto c c'
  pub stood : (k : ℕ) → k < upto → Stands H x i k
  pub so : r ≡ true → upto ≡ H.rho
  pub not_so : r ≡ false → (upto < H.rho) × (Stands H x i upto → ⊥)

-- what is said of all rows
pub record RowsReplayed (H : Matrix) (x : List ℕ) (r : Bool) : Type 0 where
  pub so : r ≡ true → ((i : ℕ) → i < H.m → RowStands H x i) × Parts H x
  pub not_so : r ≡ false → ((i : ℕ) → i < H.m → RowStands H x i) → Parts H x → ⊥

-- what is said of the list
pub record Replayed (H : Matrix) (x : List ℕ) (r : Bool) : Type 0 where
  pub so : r ≡ true → Own H x
  pub not_so : r ≡ false → Own H x → ⊥
