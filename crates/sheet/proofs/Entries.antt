-- Laws of the matrix of a sheet: its rows by the set places and the shifts.
--   set-bit       == a place of the map is clear or set
--   rows-set      == the first r block rows have r times the set places of the first
--   places-set    == the set places of all block rows
--   place-below   == a set place stands in a block column
--   place_up      == the set places of a block row ascend
--   place-count   == a block column is among them once where it is set, and not where it is clear
--   shift-near    == the k-th shift of a block row is below the block size
--   row_listed    == a row by its entries
--   list-long     == the list has J × Z rows of rho entries
--   entry-is      == entry k of row i of block row r
--   first-is      == entry k of the first row of block row r: the block's start and its shift
-- Assumes nothing.
use Prim.Native.Nat.{ℕ, suc, ◌+◌, ◌*◌, ◌%◌, ◌≤◌, ◌<◌}
use mathlib.Core.Path.{◌≡◌, sym, ap, ◌∙◌}
use mathlib.Core.List.{List}
use native.Mathlib.Nat.{add-zero, zero-add, add-mul, mul_assoc}
use native.Mathlib.Omega.{arith}
use lib.Arith.{digits_lt}
use lib.ListN.{length, get_or}
use Rattle.counting.specs.Paper.Sum.{sum_below, same}
use Rattle.counting.specs.Paper.Joined.{joined}
use Rattle.counting.specs.Paper.Lists.{listed}
use Rattle.counting.proofs.Sums.{sum-cong, sum-const}
use Rattle.counting.proofs.Writes.{length-listed, get_or-listed, listed-cong}
use Rattle.counting.proofs.Joined.{length-rows, get_or-rows}
use Rattle.counting.proofs.Chosen.{chosen-below, chosen-up, chosen-count, joined-chosen}
use Rattle.counting.proofs.Residues.{wrap-low}
use Rattle.packed_word.proofs.Packed.{bit-bit}
use Rattle.matrix.specs.Paper.Code.{entry}
use Rattle.sheet.specs.Paper.Sheet.{block_rows, block_columns, block_size, map_bit, set_at, set_in, set_places, shift_at}
use Rattle.sheet.specs.Paper.PlainSheet.{IsSheet}
use Rattle.sheet.specs.Paper.SheetMatrix.{shift_of, one_in, row_in, matrix_of_sheet}
use Rattle.sheet.specs.Parts.{place_at, entry_of}

-- a place of the map is clear or set
pub set-bit : (bs : List ℕ) (r c : ℕ) → set_at bs r c ≤ 1
unfolding set_at map_bit
set-bit bs r c = omega (arith, bit-bit bs (48 + (r * block_columns bs + c)))

module _ (bs : List ℕ) (s : IsSheet bs) where
  -- the first r block rows have r times the set places of the first
  pub rows-set : (r : ℕ) → r ≤ block_rows bs → sum_below r (set_in bs) ≡ r * set_in bs 0
  rows-set r h = sum-cong r (λ i l. s.alike i (omega arith)) ∙ sum-const r (set_in bs 0)

  -- the set places of all block rows
  pub places-set : set_places bs ≡ block_rows bs * set_in bs 0
  unfolding set_places
  places-set = rows-set (block_rows bs) (omega arith)

  -- the k-th set place of a block row is one of it
  in_row : (r k : ℕ) → r < block_rows bs → k < set_in bs 0 → k < sum_below (block_columns bs) (set_at bs r)
  unfolding set_in
  in_row r k l h = omega (arith, s.alike r l)

  -- a set place stands in a block column
  pub place-below : (r k : ℕ) → r < block_rows bs → k < set_in bs 0 → place_at bs r k < block_columns bs
  unfolding place_at
  place-below r k l h = chosen-below (block_columns bs) (set_at bs r) k (in_row r k l h)

  -- the set places of a block row ascend
  pub place_up : (r k : ℕ) → r < block_rows bs → suc k < set_in bs 0 → place_at bs r k < place_at bs r (suc k)
  unfolding place_at
  place_up r k l h = chosen-up (block_columns bs) (set_at bs r) (λ c m. set-bit bs r c) k (in_row r (suc k) l h)

  -- a block column is among them once where it is set, and not where it is clear
  pub place-count : (r c : ℕ) → r < block_rows bs → c < block_columns bs → sum_below (set_in bs 0) (λ k. same (place_at bs r k) c) ≡ set_at bs r c
  unfolding place_at set_in
  place-count r c l h =
      ap (λ (x : ℕ). sum_below x (λ k. same (place_at bs r k) c)) (sym (s.alike r l)) ∙ chosen-count (block_columns bs) (set_at bs r) c h

  -- the k-th shift of a block row is below the block size
  pub shift-near : (r k : ℕ) → r < block_rows bs → k < set_in bs 0 → shift_at bs (r * set_in bs 0 + k) < block_size bs
  shift-near r k l h =
      s.near (r * set_in bs 0 + k) (omega (arith, places-set, digits_lt {q = r} {m = block_rows bs} {r = k} {c = set_in bs 0} l h))

  -- a row by its entries
  pub row_listed : (r i : ℕ) → r < block_rows bs → row_in bs r i ≡ listed (set_in bs 0) (entry_of bs r i)
  unfolding row_in one_in shift_of entry_of place_at set_in
  row_listed r i l =
      let x : ℕ → ℕ → ℕ = λ c q. c * block_size bs + (i + shift_at bs (sum_below r (set_in bs) + q)) % block_size bs in
      joined-chosen (block_columns bs) (set_at bs r) x (λ c m. set-bit bs r c)
      ∙ ap (λ (w : ℕ). listed w (λ q. x (place_at bs r q) q)) (s.alike r l)
      ∙ listed-cong (set_in bs 0) (λ q. x (place_at bs r q) q) (entry_of bs r i)
      (λ q h. ap (λ (y : ℕ). place_at bs r q * block_size bs + (i + shift_at bs (y + q)) % block_size bs) (rows-set r (omega arith)))

  -- as many entries as the first block row has set places
  row-long : (r i : ℕ) → r < block_rows bs → length (row_in bs r i) ≡ set_in bs 0
  row-long r i l = ap length (row_listed r i l) ∙ length-listed (set_in bs 0) (entry_of bs r i)

  -- the rows of a block row together
  block-long : (r : ℕ) → r < block_rows bs → length (joined (block_size bs) (row_in bs r)) ≡ block_size bs * set_in bs 0
  block-long r l = length-rows (block_size bs) (set_in bs 0) (row_in bs r) (λ i h. row-long r i l)

  -- the list has J × Z rows of rho entries
  pub list-long : length (matrix_of_sheet bs).list ≡ block_rows bs * block_size bs * set_in bs 0
  unfolding matrix_of_sheet
  list-long =
      length-rows (block_rows bs) (block_size bs * set_in bs 0) (λ r. joined (block_size bs) (row_in bs r)) block-long
      ∙ sym (mul_assoc (block_rows bs) (block_size bs) (set_in bs 0))

  -- entry k of row i of block row r
  pub entry-is : (r i k : ℕ) → r < block_rows bs → i < block_size bs → k < set_in bs 0
      → entry (matrix_of_sheet bs) (r * block_size bs + i) k ≡ entry_of bs r i k
  unfolding entry matrix_of_sheet
  entry-is r i k l h m =
      let J : ℕ = block_rows bs in
      let Z : ℕ = block_size bs in
      let rho : ℕ = set_in bs 0 in
      let list : List ℕ = joined J (λ r. joined Z (row_in bs r)) in
      let place : (r * Z + i) * rho + k ≡ r * (Z * rho) + (i * rho + k) = omega (arith, add-mul (r * Z) i rho, mul_assoc r Z rho) in
      ap (λ (p : ℕ). get_or list p 0) place
      ∙ get_or-rows J (Z * rho) (λ r. joined Z (row_in bs r)) 0 block-long r (i * rho + k) l (digits_lt {q = i} {m = Z} {r = k} {c = rho} h m)
      ∙ get_or-rows Z rho (row_in bs r) 0 (λ i h. row-long r i l) i k h m
      ∙ ap (λ (x : List ℕ). get_or x k 0) (row_listed r i l)
      ∙ get_or-listed rho (entry_of bs r i) k 0 m

  -- entry k of the first row of block row r
  pub first-is : (r k : ℕ) → r < block_rows bs → k < set_in bs 0
      → entry (matrix_of_sheet bs) (r * block_size bs) k ≡ place_at bs r k * block_size bs + shift_at bs (r * set_in bs 0 + k)
  unfolding entry_of
  first-is r k l h =
      let shift : ℕ = shift_at bs (r * set_in bs 0 + k) in
      ap (λ (i : ℕ). entry (matrix_of_sheet bs) i k) (sym (add-zero (r * block_size bs)))
      ∙ entry-is r 0 k l s.size_some h
      ∙ ap (λ (x : ℕ). place_at bs r k * block_size bs + x) (wrap-low (block_size bs) (0 + shift) (omega (arith, shift-near r k l h)) ∙ zero-add shift)
