-- A binary code by its parity-check matrix. (Document 01, "The code and the block".)
--   Matrix          == the list and the four sizes
--   entry H i k     == the k-th column number of row i
--   has H i j       == how often row i has column j
--   weight H j      == the weight of column j
--   common H i i'   == how many columns rows i and i' have in common
--   fails H z i     == 1 where check i of the word z fails, else 0
--   failing H z     == the number of checks of z that fail
--   Word, Codeword  == bits at the columns; no check fails
-- A word is a function from columns to bits. Assumes nothing.
use Rattle.std.specs.Prelude.{◌≡◌, List, ℕ, ◌+◌, ◌*◌, ◌%◌, ◌<◌, get_or}
use Rattle.counting.specs.Paper.Sum.{sum_below, same}

-- "m × ρ unsigned 16-bit column numbers, row after row", n columns, m rows, row weight rho, smallest column weight gamma
pub record Matrix : Type 0 where
  pub list : List ℕ
  pub n : ℕ
  pub m : ℕ
  pub rho : ℕ
  pub gamma : ℕ

abbrev pub matrix : ℕ → ℕ → ℕ → ℕ → List ℕ → Matrix
matrix n m rho gamma list = record { list = list; n = n; m = m; rho = rho; gamma = gamma }

-- the k-th column number of row i
unfoldable pub entry : Matrix → ℕ → ℕ → ℕ
entry H i k = get_or H.list (i * H.rho + k) 0

-- how often row i has column j: 1 or 0 where its column numbers ascend
unfoldable pub has : Matrix → ℕ → ℕ → ℕ
has H i j = sum_below H.rho (λ k. same (entry H i k) j)

-- "column weight": the ones in column j
unfoldable pub weight : Matrix → ℕ → ℕ
weight H j = sum_below H.m (λ i. has H i j)

-- the columns that two rows share
unfoldable pub common : Matrix → ℕ → ℕ → ℕ
common H i i' = sum_below H.rho (λ k. has H i' (entry H i k))

-- bits at the columns
unfoldable pub Word : Matrix → (ℕ → ℕ) → Type 0
Word H z = (j : ℕ) → j < H.n → z j < 2

-- "A check that has an odd number fails"
unfoldable pub fails : Matrix → (ℕ → ℕ) → ℕ → ℕ
fails H z i = sum_below H.rho (λ k. z (entry H i k)) % 2

-- "failing": the checks that fail
unfoldable pub failing : Matrix → (ℕ → ℕ) → ℕ
failing H z = sum_below H.m (fails H z)

-- "A word is a codeword when every check has an even number of ones"
pub record Codeword (H : Matrix) (c : ℕ → ℕ) : Type 0 where
  pub word : Word H c
  pub clean : failing H c ≡ 0
