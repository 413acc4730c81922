-- A sheet worked by hand, both ways, and each fault of refusal 11 in it.
--   grid, code      == a sheet of 2 × 3 blocks of size 3, two of them clear, and its matrix
--   cut .. unlike   == the same bytes with one fault each
--   overlap         == a matrix that is refused by 5
--   Worked          == what the definitions make of them
-- proofs/Examples.antt proves it. Assumes nothing.
use Rattle.std.specs.Prelude.{ℕ, ◌≡◌, true, List, [], ◌∷◌}
use Rattle.answers.specs.Paper.Answers.{accepted, refused}
use Rattle.matrix.specs.Paper.Code.{Matrix, matrix}
use Rattle.sheet.specs.Paper.Sheet.{no_sheet}
use Rattle.sheet.specs.Paper.SheetMatrix.{matrix_of_sheet}
use Rattle.sheet.specs.Paper.MatrixSheet.{sheet_of}
use Rattle.sheet.specs.Paper.Calls.{to_list_verdict, to_sheet_verdict}

-- J = 2, K = 3, Z = 3; the map 110 101 and two spare places; shifts 0, 1 and 2, 1
unfoldable pub grid : List ℕ
grid = 2 ∷ 0 ∷ 3 ∷ 0 ∷ 3 ∷ 0 ∷ 0xd4 ∷ 0 ∷ 0 ∷ 1 ∷ 0 ∷ 2 ∷ 0 ∷ 1 ∷ 0 ∷ []

-- rows 0 4, 1 5, 2 3 and 2 7, 0 8, 1 6
unfoldable pub code : Matrix
code = matrix 9 6 2 1 (0 ∷ 4 ∷ 1 ∷ 5 ∷ 2 ∷ 3 ∷ 2 ∷ 7 ∷ 0 ∷ 8 ∷ 1 ∷ 6 ∷ [])

-- "wrong length": a byte less
unfoldable pub cut : List ℕ
cut = 2 ∷ 0 ∷ 3 ∷ 0 ∷ 3 ∷ 0 ∷ 0xd4 ∷ 0 ∷ 0 ∷ 1 ∷ 0 ∷ 2 ∷ 0 ∷ 1 ∷ []

-- "a zero among J, K, Z": no block rows, and then no map and no shifts
unfoldable pub none : List ℕ
none = 0 ∷ 0 ∷ 3 ∷ 0 ∷ 3 ∷ 0 ∷ []

-- "a spare map place set": the lowest
unfoldable pub spare : List ℕ
spare = 2 ∷ 0 ∷ 3 ∷ 0 ∷ 3 ∷ 0 ∷ 0xd5 ∷ 0 ∷ 0 ∷ 1 ∷ 0 ∷ 2 ∷ 0 ∷ 1 ∷ 0 ∷ []

-- "a shift not below Z": a shift of 3
unfoldable pub far : List ℕ
far = 2 ∷ 0 ∷ 3 ∷ 0 ∷ 3 ∷ 0 ∷ 0xd4 ∷ 0 ∷ 0 ∷ 3 ∷ 0 ∷ 2 ∷ 0 ∷ 1 ∷ 0 ∷ []

-- "block rows with unlike numbers of set places": the map 110 100
unfoldable pub unlike : List ℕ
unlike = 2 ∷ 0 ∷ 3 ∷ 0 ∷ 3 ∷ 0 ∷ 0xd0 ∷ 0 ∷ 0 ∷ 1 ∷ 0 ∷ 2 ∷ 0 ∷ []

-- document 01's P9, which is refused by 5
unfoldable pub overlap : Matrix
overlap = matrix 2 2 2 2 (0 ∷ 1 ∷ 0 ∷ 1 ∷ [])

-- the sheet and its matrix both ways; the faults, 11 before 7; lists without a sheet: Z = 0, Z = 9 (which does not divide 6), Z = 2,
-- 12 before 7 and after 5
pub record Worked : Type 0 where
  pub matrix_is : matrix_of_sheet grid ≡ code
  pub sheet_is : sheet_of code 3 ≡ grid
  pub to_list : to_list_verdict grid 4 12 ≡ accepted
  pub no_room : to_list_verdict grid 4 11 ≡ refused 7 0
  pub to_sheet : to_sheet_verdict code 3 15 ≡ accepted
  pub short : to_sheet_verdict code 3 14 ≡ refused 7 0
  pub faults : (no_sheet cut ∷ no_sheet none ∷ no_sheet spare ∷ no_sheet far ∷ no_sheet unlike ∷ []) ≡ (true ∷ true ∷ true ∷ true ∷ true ∷ [])
  pub eleven_first : to_list_verdict none 0 0 ≡ refused 11 0
  pub no_size : to_sheet_verdict code 0 14 ≡ refused 12 0
  pub other_size : to_sheet_verdict code 9 15 ≡ refused 12 0
  pub even_size : to_sheet_verdict code 2 15 ≡ refused 12 0
  pub five_first : to_sheet_verdict overlap 0 15 ≡ refused 5 0
