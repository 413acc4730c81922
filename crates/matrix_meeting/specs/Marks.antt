-- Rows that have two columns in common, found by a set of bits: for each column one for each of the 256 rows of a part, in 4 words of 64 bits.
--   MarksHeld w x          == bit x of the words w is set
--   Unmarked w             == every word is 0
--   bit_for c i            == the bit for column c and row i
--   marked x w             == w with bit x set
--   row_marked H i k w     == w with the bits for row i at its first k columns set
--   noted H part i w       == w with the bits for row i at all its columns set, where it is one of the part's rows
--   RowMark H part i x     == bit x is one for a row of the part before row i, at a column of that row
--   MarksOf H part i w     == the bits of w are those for the part's rows before row i at their columns, and no others
--   Meets met x met'       == met' is met with the bits of one word x more
--   MetOnce H i w          == no row has its bits in w at two columns of row i
--   SaysTwice H i w r      == r is false exactly where no row has
-- Assumes nothing.
use Rattle.std.specs.Prelude.{◌≡◌, Bool, false, cond, List, ℕ, zero, suc, ◌+◌, ◌*◌, ◌/◌, ◌%◌, ◌^◌, ◌<◌, eqb, get_or, set}
use Rattle.std.specs.Int.Bits.{bit_and, bit_or}
use Rattle.counting.specs.Digits.{binary_digit}
use Rattle.matrix.specs.Paper.Code.{Matrix, entry}
use Rattle.matrix_meeting.specs.declared.Met.{Met}

-- bit x of the words is set
unfoldable pub MarksHeld : List ℕ → ℕ → Type 0
MarksHeld w x = binary_digit (get_or w (x / 64) 0) (x % 64) ≡ 1

-- every word is 0
unfoldable pub Unmarked : List ℕ → Type 0
Unmarked w = (p : ℕ) → get_or w p 0 ≡ 0

-- the bit for column c and row i
abbrev pub bit_for : ℕ → ℕ → ℕ
bit_for c i = c * 256 + i % 256

-- the words with bit x set
unfoldable pub marked : ℕ → List ℕ → List ℕ
marked x w = set w (x / 64) (bit_or (get_or w (x / 64) 0) (2 ^ (x % 64)))

-- the words with the bits for row i at its first k columns set
unfoldable pub row_marked : Matrix → ℕ → ℕ → List ℕ → List ℕ
row_marked H i zero w = w
row_marked H i (suc k) w = marked (bit_for (entry H i k) i) (row_marked H i k w)

-- the words with row i noted, where it is one of the part's rows
unfoldable pub noted : Matrix → ℕ → ℕ → List ℕ → List ℕ
noted H part i w = cond (eqb (i / 256) part) (row_marked H i H.rho w) w

-- bit x is one for a row of the part before row i, at a column of that row
pub record RowMark (H : Matrix) (part i x : ℕ) : Type 0 where
  pub row : ℕ
  pub place : ℕ
  pub early : row < i
  pub mine : row / 256 ≡ part
  pub inside : place < H.rho
  pub is : x ≡ bit_for (entry H row place) row

-- the bits of w are those for the part's rows before row i at their columns, and no others
pub record MarksOf (H : Matrix) (part i : ℕ) (w : List ℕ) : Type 0 where
  pub each : (x : ℕ) → RowMark H part i x → MarksHeld w x
  pub only : (x : ℕ) → MarksHeld w x → RowMark H part i x

-- met' is met with the bits of one word x more
pub record Meets (met : Met) (x : ℕ) (met' : Met) : Type 0 where
  pub all : met'.once ≡ bit_or met.once x
  pub again : met'.twice ≡ bit_or met.twice (bit_and met.once x)

-- no row has its bits at two columns of row i
unfoldable pub MetOnce : Matrix → ℕ → List ℕ → Type 0
MetOnce H i w =
    (q q' : ℕ) → q < q' → q' < H.rho → (r : ℕ) → MarksHeld w (bit_for (entry H i q) r) → MarksHeld w (bit_for (entry H i q') r) → ⊥

-- r is false exactly where no row has
pub record SaysTwice (H : Matrix) (i : ℕ) (w : List ℕ) (r : Bool) : Type 0 where
  pub once : r ≡ false → MetOnce H i w
  pub none : MetOnce H i w → r ≡ false
