-- The sheet of a matrix with a given Z. (Document 02, card 5.)
--   in_block H Z p      == how many of the first rows' ones stand in the block at place p of the map
--   sheet_of H Z        == the bytes of the sheet whose blocks have these first rows
--   same_matrix A B     == whether two matrices have the same sizes and list
--   describes H Z       == whether a sheet with that Z describes the matrix: the sheet by its first rows does
-- Assumes nothing.
use Rattle.std.specs.Prelude.{ℕ, ◌+◌, ◌*◌, ◌/◌, ◌%◌, Bool, not, ◌&&◌, List, ◌++◌, eqb}
use Rattle.counting.specs.Paper.Sum.{sum_below, same}
use Rattle.counting.specs.Paper.Joined.{joined, same_list}
use Rattle.packed_word.specs.Paper.Packed.{pack}
use Rattle.byte_numbers.specs.Paper.Numbers.{bytes16}
use Rattle.matrix.specs.Paper.Code.{Matrix, entry}
use Rattle.sheet.specs.Paper.Sheet.{no_sheet}
use Rattle.sheet.specs.Paper.SheetMatrix.{matrix_of_sheet}

-- the first row of block row r is row r × Z: its ones tell which blocks are set
unfoldable pub in_block : Matrix → ℕ → ℕ → ℕ
in_block H Z p = sum_below (H.m / Z) (λ r. sum_below H.rho (λ k. same (r * (H.n / Z) + entry H (r * Z) k / Z) p))

-- J, K and Z, the map, and the shifts: row 0 of a set block "has its one at column .. shift .. of that block"
unfoldable pub sheet_of : Matrix → ℕ → List ℕ
sheet_of H Z =
    bytes16 (H.m / Z)
    ++ (bytes16 (H.n / Z)
    ++ (bytes16 Z
    ++ (pack (H.m / Z * (H.n / Z)) (in_block H Z) ++ joined (H.m / Z) (λ r. joined H.rho (λ k. bytes16 (entry H (r * Z) k % Z))))))

-- the same sizes and list
unfoldable pub same_matrix : Matrix → Matrix → Bool
same_matrix A B =
    eqb A.n B.n && (eqb A.m B.m && (eqb A.rho B.rho && (eqb A.gamma B.gamma && same_list A.list B.list)))

-- not "Z is 0 or no sheet with that Z describes the list"
unfoldable pub describes : Matrix → ℕ → Bool
describes H Z = not (eqb Z 0) && (not (no_sheet (sheet_of H Z)) && same_matrix (matrix_of_sheet (sheet_of H Z)) H)
