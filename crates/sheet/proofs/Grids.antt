-- The matrix of a sheet is a grid of blocks.
--   block-rows                 == its rows are those of the block rows
--   first-place, first-shift   == an entry of a first row lies in the block column of its set place, as far in as its shift says
--   sheet-grid                 == a grid of zero and shifted identity blocks of the sheet's block size
-- Assumes nothing.
use Prim.Native.Nat.{ℕ, suc, ◌+◌, ◌*◌, ◌/◌, ◌%◌, ◌<◌}
use mathlib.Core.Path.{◌≡◌, refl, sym, ap, ap₂, ◌∙◌}
use mathlib.Core.List.{List}
use native.Mathlib.Nat.{mul-div_cancel}
use native.Mathlib.Omega.{arith}
use Rattle.counting.proofs.Residues.{digit-high, digit_low}
use Rattle.sheet.specs.Paper.Sheet.{block_rows, block_columns, block_size, set_in, shift_at}
use Rattle.sheet.specs.Paper.PlainSheet.{IsSheet}
use Rattle.sheet.specs.Paper.SheetMatrix.{matrix_of_sheet}
use Rattle.sheet.specs.Parts.{place_at, entry_of, first_entry, turned, Grid}
use Rattle.sheet.proofs.Entries.{place_up, shift-near, entry-is, first-is}

module _ (bs : List ℕ) (s : IsSheet bs) where
  -- the rows of the matrix in block rows
  pub block-rows : (matrix_of_sheet bs).m / block_size bs ≡ block_rows bs
  unfolding matrix_of_sheet
  block-rows = mul-div_cancel (block_rows bs) s.size_some

  -- the block column of an entry of a first row
  pub first-place : (r k : ℕ) → r < block_rows bs → k < set_in bs 0 → first_entry (matrix_of_sheet bs) (block_size bs) r k / block_size bs ≡ place_at bs r k
  unfolding first_entry
  first-place r k l h =
      ap (λ (x : ℕ). x / block_size bs) (first-is bs s r k l h)
      ∙ digit-high (block_size bs) (place_at bs r k) (shift_at bs (r * set_in bs 0 + k)) (shift-near bs s r k l h)

  -- its place in the block
  pub first-shift : (r k : ℕ) → r < block_rows bs → k < set_in bs 0
      → first_entry (matrix_of_sheet bs) (block_size bs) r k % block_size bs ≡ shift_at bs (r * set_in bs 0 + k)
  unfolding first_entry
  first-shift r k l h =
      ap (λ (x : ℕ). x % block_size bs) (first-is bs s r k l h)
      ∙ digit_low (block_size bs) (place_at bs r k) (shift_at bs (r * set_in bs 0 + k)) (shift-near bs s r k l h)

  -- the other rows of a block are its first row turned
  first-turned : (r i k : ℕ) → r < block_rows bs → k < set_in bs 0 → turned (block_size bs) (first_entry (matrix_of_sheet bs) (block_size bs) r k) i ≡ entry_of bs r i k
  unfolding turned entry_of
  first-turned r i k l h =
      ap₂ (λ (x y : ℕ). x * block_size bs + (i + y) % block_size bs) (first-place r k l h) (first-shift r k l h)

  -- the widths of the grid
  grid-wide : (matrix_of_sheet bs).n / block_size bs * block_size bs ≡ (matrix_of_sheet bs).n
  unfolding matrix_of_sheet
  grid-wide = ap (λ (x : ℕ). x * block_size bs) (mul-div_cancel (block_columns bs) s.size_some)

  grid-high : (matrix_of_sheet bs).m / block_size bs * block_size bs ≡ (matrix_of_sheet bs).m
  unfolding matrix_of_sheet
  grid-high = ap (λ (x : ℕ). x * block_size bs) (mul-div_cancel (block_rows bs) s.size_some)

  -- its row weight is the set places of a block row
  weight-set : (matrix_of_sheet bs).rho ≡ set_in bs 0
  unfolding matrix_of_sheet
  weight-set = refl

-- a grid of zero and shifted identity blocks of the sheet's block size
pub sheet-grid : (bs : List ℕ) → IsSheet bs → Grid (matrix_of_sheet bs) (block_size bs)
sheet-grid bs s =
    let rows = block-rows bs s in
    let rho = weight-set bs s in
    record {
      some = s.size_some;
      wide = grid-wide bs s;
      high = grid-high bs s;
      apart = λ r k l h.
          omega (
            arith,
            first-place bs s r k (omega arith) (omega arith),
            first-place bs s r (suc k) (omega arith) (omega arith),
            place_up bs s r k (omega arith) (omega arith),
          );
      follows = λ r i k l h m. entry-is bs s r i k (omega arith) h (omega arith) ∙ sym (first-turned bs s r i k (omega arith) (omega arith));
    }
