-- Laws of a list that is written block row by block row.
--   list-none   == no block row is written yet
--   list-next   == the next one is written
--   list-room   == the memory stays as long as it was
--   list_all    == all of them are the list of the sheet, and the rest of the memory is as it was
-- Assumes nothing.
use mathlib.Core.Path.{◌≡◌, sym, ap, ap₂, ◌∙◌}
use mathlib.Core.List.{List}
use Prim.Native.Nat.{ℕ, ◌+◌, ◌*◌, ◌≤◌, ◌<◌}
use native.Mathlib.Nat.{zero-mul, add-mul, one-mul, mul_assoc, mul-le-mul_right}
use native.Mathlib.Omega.{arith}
use lib.ListN.{length}
use Rattle.counting.specs.Paper.Lists.{listed, over}
use Rattle.counting.specs.Places.{at}
use Rattle.counting.proofs.Writes.{over_none, over-long, listed-get_or}
use Rattle.matrix.specs.Paper.Code.{entry}
use Rattle.sheet.specs.Paper.SheetMatrix.{matrix_of_sheet}
use Rattle.sheet.specs.Parts.{entry_of}
use Rattle.sheet.proofs.Entries.{list-long, entry-is}
use Rattle.sheet_bytes.specs.declared.Heading.{Heading}
use Rattle.sheet_rows.specs.Parts.{put_rows, SheetLent}
use Rattle.sheet_rows.proofs.Writing.{rows-over}
use Rattle.sheet_rows.proofs.Lent.{row_inside}

-- the numbers of the list
abbrev pub cells : List ℕ → ℕ → ℕ
cells bs = at (matrix_of_sheet bs).list

module _ (bs : List ℕ) (h : Heading) (rho : ℕ) (t : SheetLent bs h rho) (old : List ℕ) where
  -- no block row is written yet
  pub list-none : old ≡ over (listed (0 * (h.size * rho)) (cells bs)) old
  list-none = sym (ap (λ (k : ℕ). over (listed k (cells bs)) old) (zero-mul (h.size * rho)) ∙ over_none (cells bs) old)

  -- where the entries of a block row stand
  cell-is : (r i k : ℕ) → r < h.rows → i < h.size → k < rho → entry_of bs r i k ≡ cells bs (r * (h.size * rho) + i * rho + k)
  unfolding entry matrix_of_sheet
  cell-is r i k l g b =
      sym (entry-is bs t.sheet r i k (omega (arith, t.headed.rows)) (omega (arith, t.headed.size)) (omega (arith, t.row)))
      ∙ ap (cells bs) (ap₂ (λ (z w : ℕ). (r * z + i) * w + k) (sym t.headed.size) (sym t.row) ∙ place)
    where
      place : (r * h.size + i) * rho + k ≡ r * (h.size * rho) + i * rho + k
      place = omega (arith, add-mul (r * h.size) i rho, mul_assoc r h.size rho)

  -- the next one is written
  pub list-next : (r : ℕ) (x y : List ℕ) → r < h.rows → h.rows * h.size * rho ≤ length old → x ≡ over (listed (r * (h.size * rho)) (cells bs)) old
      → y ≡ put_rows (r * (h.size * rho)) rho (entry_of bs r) h.size x → y ≡ over (listed ((r + 1) * (h.size * rho)) (cells bs)) old
  list-next r x y l room e q =
      q
      ∙ ap (put_rows (r * (h.size * rho)) rho (entry_of bs r) h.size) e
      ∙ rows-over (r * (h.size * rho)) rho (entry_of bs r) (cells bs) h.size old
      (omega (arith, row_inside bs h rho t r l, mul_assoc h.rows h.size rho)) (λ i k g b. cell-is r i k l g b)
      ∙ ap (λ (k : ℕ). over (listed k (cells bs)) old) (omega (arith, add-mul r 1 (h.size * rho), one-mul (h.size * rho)))

  -- the memory stays as long as it was
  pub list-room : (r : ℕ) (x : List ℕ) → r ≤ h.rows → h.rows * h.size * rho ≤ length old → x ≡ over (listed (r * (h.size * rho)) (cells bs)) old
      → length x ≡ length old
  list-room r x l room e =
      over-long (r * (h.size * rho)) (cells bs) old x e
      (omega (arith, mul-le-mul_right {m = r} {n = h.rows} (h.size * rho) l, mul_assoc h.rows h.size rho))

  -- all of them are the list of the sheet
  pub list_all : (x : List ℕ) → x ≡ over (listed (h.rows * (h.size * rho)) (cells bs)) old → x ≡ over (matrix_of_sheet bs).list old
  list_all x e = e ∙ ap (λ (l : List ℕ). over l old) (ap (λ (k : ℕ). listed k (cells bs)) whole ∙ listed-get_or (matrix_of_sheet bs).list 0)
    where
      whole : h.rows * (h.size * rho) ≡ length (matrix_of_sheet bs).list
      whole =
          sym (mul_assoc h.rows h.size rho)
          ∙ ap₂ ◌*◌ (ap₂ ◌*◌ t.headed.rows t.headed.size) t.row
          ∙ sym (list-long bs t.sheet)
