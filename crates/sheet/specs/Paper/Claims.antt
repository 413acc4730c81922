-- What is promised of sheets. (Document 02, card 5.)
--   SheetReads      == bytes are refused by 11 exactly where they are not a sheet
--   SheetBack       == sheet to list and back: a sheet is the sheet of its own matrix, byte for byte
--   ListBack        == list to sheet and back: a matrix that a sheet describes is the matrix of its sheet, sizes and list
--   ElevenExactly   == sheet to list is refused by 11 exactly where the bytes are not a sheet
--   SheetFor H Z    == a sheet with that Z whose matrix is H
--   Described       == a matrix is refused by 12 exactly where Z is 0 or there is no such sheet
--   TwelveExactly   == list to sheet is refused by 12 exactly where the matrix is accepted and Z is 0 or there is no such sheet
--   OneAlways       == with Z = 1 every accepted matrix has a sheet
--   SheetUnique     == a sheet is determined by its matrix and Z
--   SheetWeights    == each column of a block column weighs as much as the block column has set places, and gamma is the smallest weight
--   SheetOrdered    == the list of a sheet never meets refusals 2 and 3
--   SheetHeavy      == it meets 4 only for a block column with more than 32 set places, its place the first column of the lowest such
--   CallsBack       == what sheet to list accepts, list to sheet turns back into the same bytes, where there is room for them
--   BackAgain       == what list to sheet accepts, sheet to list turns back into the same sizes and list, where there is room for them
-- proofs/Claims.antt proves them, those on reading, refusals, weights and order proofs/PlainSheet, Exactly, Ones, Weights, Order and Heavy.
-- Assumes nothing.
use Rattle.std.specs.Prelude.{ℕ, ◌+◌, ◌*◌, ◌≤◌, ◌<◌, ◌≡◌, true, false, List, length}
use Rattle.answers.specs.Paper.Answers.{accepted, refused}
use Rattle.packed_word.specs.Paper.Packed.{Bytes}
use Rattle.matrix.specs.Paper.Code.{Matrix, weight}
use Rattle.matrix.specs.Paper.Check.{check_of}
use Rattle.sheet.specs.Paper.Sheet.{block_columns, block_size, set_down, no_sheet}
use Rattle.sheet.specs.Paper.PlainSheet.{IsSheet}
use Rattle.sheet.specs.Paper.SheetMatrix.{matrix_of_sheet}
use Rattle.sheet.specs.Paper.MatrixSheet.{sheet_of, describes}
use Rattle.sheet.specs.Paper.Calls.{to_list_verdict, to_sheet_verdict}

-- "bytes that are not a sheet"
pub record SheetReads (bs : List ℕ) : Type 0 where
  pub is : no_sheet bs ≡ false → IsSheet bs
  pub so : IsSheet bs → no_sheet bs ≡ false

-- "New refusal 11, bytes that are not a sheet .., comes before all others"
pub record ElevenExactly (bs : List ℕ) (a b : ℕ) : Type 0 where
  pub only : to_list_verdict bs a b ≡ refused 11 0 → IsSheet bs → ⊥
  pub always : (IsSheet bs → ⊥) → to_list_verdict bs a b ≡ refused 11 0

-- "nothing lost": from the sheet to the list and back
abbrev pub SheetBack : Type 0
SheetBack = (bs : List ℕ) → Bytes bs → IsSheet bs → sheet_of (matrix_of_sheet bs) (block_size bs) ≡ bs

-- "nothing lost": from the list to the sheet and back
abbrev pub ListBack : Type 0
ListBack = (H : Matrix) (Z : ℕ) → describes H Z ≡ true → matrix_of_sheet (sheet_of H Z) ≡ H

-- a sheet with that Z that describes the list
pub record SheetFor (H : Matrix) (Z : ℕ) : Type 0 where
  pub bytes : List ℕ
  pub small : Bytes bytes
  pub sheet : IsSheet bytes
  pub size : block_size bytes ≡ Z
  pub own : matrix_of_sheet bytes ≡ H

-- "no sheet with that Z describes the list"
pub record Described (H : Matrix) (Z : ℕ) : Type 0 where
  pub found : describes H Z ≡ true → SheetFor H Z
  pub told : SheetFor H Z → describes H Z ≡ true

-- "new 12, .., comes after 5", and before 7
pub record TwelveExactly (H : Matrix) (Z room : ℕ) : Type 0 where
  pub only : to_sheet_verdict H Z room ≡ refused 12 0 → (check_of H ≡ accepted) × (SheetFor H Z → ⊥)
  pub always : check_of H ≡ accepted → (SheetFor H Z → ⊥) → to_sheet_verdict H Z room ≡ refused 12 0

-- blocks of size 1: a matrix is its own map
abbrev pub OneAlways : Type 0
OneAlways = (H : Matrix) → check_of H ≡ accepted → describes H 1 ≡ true

-- a sheet is determined by its list and Z
abbrev pub SheetUnique : Type 0
SheetUnique =
    (a b : List ℕ) → Bytes a → Bytes b → IsSheet a → IsSheet b → block_size a ≡ block_size b → matrix_of_sheet a ≡ matrix_of_sheet b → a ≡ b

-- "γ the fewest set places in a block column" is the smallest column weight
pub record SheetWeights (bs : List ℕ) : Type 0 where
  pub weighs : (c t : ℕ) → c < block_columns bs → t < block_size bs → weight (matrix_of_sheet bs) (c * block_size bs + t) ≡ set_down bs c
  pub fewest : (j : ℕ) → j < (matrix_of_sheet bs).n → (matrix_of_sheet bs).gamma ≤ weight (matrix_of_sheet bs) j
  pub attained : (j : ℕ) × (j < (matrix_of_sheet bs).n) × (weight (matrix_of_sheet bs) j ≡ (matrix_of_sheet bs).gamma)

-- a sheet's list has its length and is in order, so that of 1 to 5 only 1, 4 and 5 can apply
pub record SheetOrdered (bs : List ℕ) : Type 0 where
  pub never_length : (x : ℕ) → check_of (matrix_of_sheet bs) ≡ refused 2 x → ⊥
  pub never_entry : (x : ℕ) → check_of (matrix_of_sheet bs) ≡ refused 3 x → ⊥

-- "γ the fewest set places in a block column", so that no column is too light and one weighs γ: 4 is given for a heavy column alone
abbrev pub SheetHeavy : Type 0
SheetHeavy =
    (bs : List ℕ) (x : ℕ) → IsSheet bs → check_of (matrix_of_sheet bs) ≡ refused 4 x
    → (c : ℕ) × (c < block_columns bs) × (x ≡ c * block_size bs) × (32 < set_down bs c) × ((d : ℕ) → d < c → set_down bs d ≤ 32)

-- "Turn a sheet into a list .. nothing lost"
abbrev pub CallsBack : Type 0
CallsBack =
    (bs : List ℕ) (a b room : ℕ) → Bytes bs → to_list_verdict bs a b ≡ accepted → length bs ≤ room
    → (to_sheet_verdict (matrix_of_sheet bs) (block_size bs) room ≡ accepted) × (sheet_of (matrix_of_sheet bs) (block_size bs) ≡ bs)

-- "and an accepted list with a given Z into its sheet, nothing lost"
abbrev pub BackAgain : Type 0
BackAgain =
    (H : Matrix) (Z room a b : ℕ) → to_sheet_verdict H Z room ≡ accepted → 4 ≤ a → H.m * H.rho ≤ b
    → (to_list_verdict (sheet_of H Z) a b ≡ accepted) × (matrix_of_sheet (sheet_of H Z) ≡ H)
