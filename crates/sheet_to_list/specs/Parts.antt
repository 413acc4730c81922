-- What the parts of the call ask and leave.
--   list_verdict H a b        == what is asked of sizes and list once they are known: 1 to 5, then 7
--   MatrixAnswered H ..       == what is said and left then
--   Small bs h                == a sheet with its heading, of at most 1,023 columns and rows
--   Made bs h s               == such a sheet, and sizes that fit and are its own
-- Assumes nothing.
use Rattle.std.specs.Prelude.{ℕ, ◌*◌, ◌≤◌, ◌≡◌, ◌||◌, List, ltb, length}
use Rattle.answers.specs.Paper.Answers.{Verdict, accepted, refuse_when, and_then}
use Rattle.matrix.specs.Paper.Code.{Matrix}
use Rattle.matrix.specs.Paper.Check.{check_of}
use Rattle.matrix.specs.Paper.PlainCheck.{Sizes}
use Rattle.matrix.specs.Paper.Shapes.{matrix_of}
use Rattle.matrix.specs.declared.Shape.{Shape}
use Rattle.sheet.specs.Paper.PlainSheet.{IsSheet}
use Rattle.sheet.specs.Paper.SheetMatrix.{matrix_of_sheet}
use Rattle.sheet_bytes.specs.declared.Heading.{Heading}
use Rattle.sheet_bytes.specs.Parts.{Headed}
use Rattle.sheet_to_list.specs.Paper.Call.{ListAnswered}

-- 1 to 5, then 7
unfoldable pub list_verdict : Matrix → ℕ → ℕ → Verdict
list_verdict H a b = and_then (check_of H) (refuse_when 7 (ltb a 4 || ltb b (H.m * H.rho)) accepted)

-- what is said and left of sizes and list
abbrev pub MatrixAnswered : Matrix → List ℕ → List ℕ → List ℕ → List ℕ → Verdict → Type 0
MatrixAnswered H ss ss' ls ls' said = ListAnswered (list_verdict H (length ss) (length ls)) H ss ss' ls ls' said

-- what refusal 11 leaves, and n and m in range
pub record Small (bs : List ℕ) (h : Heading) : Type 0 where
  pub sheet : IsSheet bs
  pub headed : Headed bs h
  pub wide : h.columns * h.size ≤ 1023
  pub high : h.rows * h.size ≤ 1023

-- what refusal 1 leaves: the sizes are the sheet's and in range
pub record Made (bs : List ℕ) (h : Heading) (s : Shape) : Type 0 where
  pub small : Small bs h
  pub own : matrix_of s (matrix_of_sheet bs).list ≡ matrix_of_sheet bs
  pub fit : Sizes (matrix_of_sheet bs)
