-- List to sheet as a call: what it says and leaves. (Document 02, card 5.)
--   SheetAnswered H Z old new s   == what turning H into its sheet says, and what it leaves in the buffer, refused calls too
-- Assumes nothing.
use Rattle.std.specs.Prelude.{ℕ, ◌≡◌, List, length}
use Rattle.answers.specs.Paper.Answers.{Said, written}
use Rattle.matrix.specs.Paper.Code.{Matrix}
use Rattle.sheet.specs.Paper.MatrixSheet.{sheet_of}
use Rattle.sheet.specs.Paper.Calls.{to_sheet_verdict, to_sheet_of}

-- "an accepted list with a given Z into its sheet"
pub record SheetAnswered (H : Matrix) (Z : ℕ) (old new : List ℕ) (s : Said) : Type 0 where
  pub says : s ≡ to_sheet_of H Z (length old)
  pub sheet : new ≡ written (to_sheet_verdict H Z (length old)) (sheet_of H Z) old
