-- Sheet to list as a call: what it says and leaves. (Document 02, card 5.)
--   ListAnswered v H ss ss' ls ls' said   == what is said and left where v is asked and the sizes and the list of H are written
--   SheetAnswered bs ss ss' ls ls' said   == the same of the whole call, refused ones too
-- The buffer for the sizes is ss before and ss' after, that for the list ls and ls'. Assumes nothing.
use Rattle.std.specs.Prelude.{ℕ, ◌≡◌, List, length}
use Rattle.answers.specs.Paper.Answers.{Verdict, written}
use Rattle.matrix.specs.Paper.Code.{Matrix}
use Rattle.sheet.specs.Paper.SheetMatrix.{matrix_of_sheet}
use Rattle.sheet.specs.Paper.Calls.{sizes_of, to_list_verdict}

pub record ListAnswered (v : Verdict) (H : Matrix) (ss ss' ls ls' : List ℕ) (said : Verdict) : Type 0 where
  pub says : said ≡ v
  pub sizes : ss' ≡ written v (sizes_of H) ss
  pub list : ls' ≡ written v H.list ls

-- "The sizes and the list are then checked as any others before anything is written"
abbrev pub SheetAnswered : List ℕ → List ℕ → List ℕ → List ℕ → List ℕ → Verdict → Type 0
SheetAnswered bs ss ss' ls ls' said = ListAnswered (to_list_verdict bs (length ss) (length ls)) (matrix_of_sheet bs) ss ss' ls ls' said
