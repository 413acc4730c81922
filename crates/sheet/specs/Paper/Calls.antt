-- What the two calls ask and say. (Document 02, card 5.)
--   sizes_of H                   == the four sizes as they are written
--   to_list_verdict bs a b       == sheet to list: 11, 1 to 5, and 7 for fewer than four cells for the sizes or fewer than m × rho for the list
--   to_list_of bs a b            == what that call says
--   to_sheet_verdict H Z room    == list to sheet: 1 to 5, 12, and 7 for fewer bytes than the sheet has
--   to_sheet_of H Z room         == what that call says: how many bytes it wrote
-- Assumes nothing.
use Rattle.std.specs.Prelude.{ℕ, ◌*◌, not, ◌||◌, List, [], ◌∷◌, ltb, length}
use Rattle.answers.specs.Paper.Answers.{Verdict, accepted, refuse_when, and_then, Said, stored, acceptance, after}
use Rattle.matrix.specs.Paper.Code.{Matrix}
use Rattle.matrix.specs.Paper.Check.{check_of}
use Rattle.sheet.specs.Paper.Sheet.{no_sheet}
use Rattle.sheet.specs.Paper.SheetMatrix.{matrix_of_sheet}
use Rattle.sheet.specs.Paper.MatrixSheet.{sheet_of, describes}

-- n, m, rho and gamma
unfoldable pub sizes_of : Matrix → List ℕ
sizes_of H = H.n ∷ H.m ∷ H.rho ∷ H.gamma ∷ []

-- "New refusal 11, bytes that are not a sheet .., comes before all others"; "The sizes and the list are then checked as any others before
-- anything is written"
unfoldable pub to_list_verdict : List ℕ → ℕ → ℕ → Verdict
to_list_verdict bs a b =
    refuse_when 11 (no_sheet bs)
    (and_then (check_of (matrix_of_sheet bs)) (refuse_when 7 (ltb a 4 || ltb b ((matrix_of_sheet bs).m * (matrix_of_sheet bs).rho)) accepted))

unfoldable pub to_list_of : List ℕ → ℕ → ℕ → Said
to_list_of bs a b = after (to_list_verdict bs a b) acceptance

-- "new 12, Z is 0 or no sheet with that Z describes the list, comes after 5"
unfoldable pub to_sheet_verdict : Matrix → ℕ → ℕ → Verdict
to_sheet_verdict H Z room =
    and_then (check_of H) (refuse_when 12 (not (describes H Z)) (refuse_when 7 (ltb room (length (sheet_of H Z))) accepted))

unfoldable pub to_sheet_of : Matrix → ℕ → ℕ → Said
to_sheet_of H Z room = after (to_sheet_verdict H Z room) (stored (length (sheet_of H Z)))
