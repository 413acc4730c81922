-- Numbers and floats that stand in bytes. (Document 01, "Worked by hand": the paragraph on the program.)
--   number16 bs p, number32 bs p    == the number that stands at byte p, low byte first
--   bytes16 x                       == a number of 16 bits as two bytes, low byte first
--   float bs p                      == the single-format float that stands at byte p
--   entry_in bs i, entries_in bs    == the i-th 16-bit number, and all that the bytes are
--   sample_in bs i, samples_in bs   == the i-th float, and all that the bytes are
--   not_finite_in bs i              == whether the i-th float is infinite or not a number
-- Assumes nothing.
use Rattle.std.specs.Prelude.{ℕ, ◌+◌, ◌*◌, ◌/◌, ◌%◌, Bool, not, List, [], ◌∷◌, Float, length, get_or}
use Rattle.std.specs.Float.{binary32}
use Rattle.std.specs.Float.Ieee.{of_bits}
use Rattle.std.specs.Float.Ieee.Scale.{finite}
use Rattle.counting.specs.Paper.Lists.{listed}

-- "16-bit numbers, low byte first"
unfoldable pub number16 : List ℕ → ℕ → ℕ
number16 bs p = get_or bs p 0 + 256 * get_or bs (p + 1) 0

-- "16 bits each, low byte first", as they are written
abbrev pub bytes16 : ℕ → List ℕ
bytes16 x = x % 256 ∷ x / 256 ∷ []

unfoldable pub number32 : List ℕ → ℕ → ℕ
number32 bs p = number16 bs p + 65536 * number16 bs (p + 2)

-- "single-format floats, low byte first"
unfoldable pub float : List ℕ → ℕ → Float
float bs p = of_bits binary32 (number32 bs p)

-- two bytes a number
unfoldable pub entry_in : List ℕ → ℕ → ℕ
entry_in bs i = number16 bs (2 * i)

unfoldable pub entries_in : List ℕ → List ℕ
entries_in bs = listed (length bs / 2) (entry_in bs)

-- four bytes a float
unfoldable pub sample_in : List ℕ → ℕ → Float
sample_in bs i = float bs (4 * i)

unfoldable pub samples_in : List ℕ → List Float
samples_in bs = listed (length bs / 4) (sample_in bs)

-- "infinite or not a number"
unfoldable pub not_finite_in : List ℕ → ℕ → Bool
not_finite_in bs i = not (finite (sample_in bs i))
