-- Refusal 12 and grids of blocks.
--   describes-parts   == what it says that a sheet describes a matrix: the sheet by its first rows is a sheet, and its matrix is that one
--   parts-describe    == and where that holds a sheet describes it
--   describes-grid    == a matrix that a sheet describes is a grid of blocks
--   grid-describes    == an accepted matrix that is a grid of blocks is described by a sheet
-- Assumes nothing.
use mathlib.Core.Path.{◌≡◌, ap, subst}
use mathlib.Core.Bool.{true, not}
use Prim.Native.Nat.{ℕ}
use native.Mathlib.Omega.{arith}
use lib.Dec.{eqb}
use borrow.Author.Tests.{eqb-true, eq-eqb, ne_eqb, not-true}
use Rattle.counting.specs.Paper.Joined.{same_list}
use Rattle.counting.proofs.Searches.{and_left, and_right, and_both}
use Rattle.counting.proofs.Joined.{same-list, list_same}
use Rattle.matrix.specs.Paper.Code.{Matrix}
use Rattle.matrix.specs.Paper.PlainCheck.{Accepted}
use Rattle.sheet.specs.Paper.Sheet.{no_sheet}
use Rattle.sheet.specs.Paper.PlainSheet.{IsSheet}
use Rattle.sheet.specs.Paper.SheetMatrix.{matrix_of_sheet}
use Rattle.sheet.specs.Paper.MatrixSheet.{sheet_of, same_matrix, describes}
use Rattle.sheet.specs.Parts.{Grid}
use Rattle.sheet.proofs.PlainSheet.{sheet-reads}
use Rattle.sheet.proofs.Grids.{sheet-grid}
use Rattle.sheet.proofs.MadeBytes.{made-size}
use Rattle.sheet.proofs.Made.{matrix-cong, made-sheet, made-matrix}

-- matrices that compare equal are equal
same-matrix : (A B : Matrix) → same_matrix A B ≡ true → A ≡ B
unfolding same_matrix
same-matrix A B e =
    let e₁ = and_right (eqb A.n B.n) _ e in
    let e₂ = and_right (eqb A.m B.m) _ e₁ in
    let e₃ = and_right (eqb A.rho B.rho) _ e₂ in
    matrix-cong A B (eqb-true A.n B.n (and_left _ _ e)) (eqb-true A.m B.m (and_left _ _ e₁))
    (eqb-true A.rho B.rho (and_left _ _ e₂)) (eqb-true A.gamma B.gamma (and_left _ (same_list A.list B.list) e₃))
    (same-list A.list B.list (and_right (eqb A.gamma B.gamma) _ e₃))

-- and equal ones compare equal
matrix-same : (A B : Matrix) → A ≡ B → same_matrix A B ≡ true
unfolding same_matrix
matrix-same A B e =
    and_both _ _ (eq-eqb A.n B.n (ap (λ (X : Matrix). X.n) e))
    (and_both _ _ (eq-eqb A.m B.m (ap (λ (X : Matrix). X.m) e))
    (and_both _ _ (eq-eqb A.rho B.rho (ap (λ (X : Matrix). X.rho) e))
    (and_both _ _ (eq-eqb A.gamma B.gamma (ap (λ (X : Matrix). X.gamma) e)) (list_same A.list B.list (ap (λ (X : Matrix). X.list) e)))))

module _ (H : Matrix) (Z : ℕ) where
  -- what it says that a sheet describes a matrix
  pub describes-parts : describes H Z ≡ true → IsSheet (sheet_of H Z) × (matrix_of_sheet (sheet_of H Z) ≡ H)
  unfolding describes
  describes-parts e =
      let e₁ = and_right (not (eqb Z 0)) _ e in (
        (sheet-reads (sheet_of H Z)).is (not-true (no_sheet (sheet_of H Z)) (and_left _ (same_matrix (matrix_of_sheet (sheet_of H Z)) H) e₁)),
        same-matrix (matrix_of_sheet (sheet_of H Z)) H (and_right (not (no_sheet (sheet_of H Z))) _ e₁),
      )

  -- and where that holds a sheet describes it
  pub parts-describe : IsSheet (sheet_of H Z) → matrix_of_sheet (sheet_of H Z) ≡ H → describes H Z ≡ true
  unfolding describes
  parts-describe s e =
      and_both _ _ (ap not (ne_eqb Z 0 (λ z. omega (arith, s.size_some, made-size H Z))))
      (and_both _ _ (ap not ((sheet-reads (sheet_of H Z)).so s)) (matrix-same (matrix_of_sheet (sheet_of H Z)) H e))

-- a matrix that a sheet describes is a grid of blocks
pub describes-grid : (H : Matrix) (Z : ℕ) → describes H Z ≡ true → Grid H Z
describes-grid H Z e =
    let p = describes-parts H Z e in
    subst (λ (X : Matrix). Grid X Z) p.1 (subst (Grid (matrix_of_sheet (sheet_of H Z))) (made-size H Z) (sheet-grid (sheet_of H Z) p.0))

-- an accepted matrix that is a grid of blocks is described by a sheet
pub grid-describes : (H : Matrix) (Z : ℕ) → Accepted H → Grid H Z → describes H Z ≡ true
grid-describes H Z a g = parts-describe H Z (made-sheet H Z a g) (made-matrix H Z a g)
