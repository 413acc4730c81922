-- What the program's input begins with, by its bytes. (Document 01, "Worked by hand": the paragraph on the program.)
--   matrix_in bs list        == the matrix with this list whose four sizes are the first eight bytes
--   setting_in bs            == the setting of seven bytes: b, round limit, step kind and step
-- Assumes nothing.
use Rattle.std.specs.Prelude.{ℕ, List, get_or}
use Rattle.byte_numbers.specs.Paper.Numbers.{number16, float}
use Rattle.matrix.specs.Paper.Code.{Matrix, matrix}
use Rattle.quantiser_levels.specs.Paper.Samples.{Setting}

-- "n, m, ρ, γ"
unfoldable pub matrix_in : List ℕ → List ℕ → Matrix
matrix_in bs list = matrix (number16 bs 0) (number16 bs 2) (number16 bs 4) (number16 bs 6) list

-- "one byte each for b, round limit and step kind .. the step"
unfoldable pub setting_in : List ℕ → Setting
setting_in bs = record { bits = get_or bs 0 0; limit = get_or bs 1 0; kind = get_or bs 2 0; step = float bs 3 }
