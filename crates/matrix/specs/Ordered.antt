-- What refusals 1 to 4 leave to the later ones.
--   Sized H         == what refusals 1 and 2 leave: sizes in range, a list of m × rho entries
--   Ordered H       == what refusal 3 leaves besides: no bad entry
--   WeightsFit H    == what refusal 4 leaves: weights from gamma to 32, and a column that weighs gamma
--   Column H i k c  == c is the k-th column number of row i
-- Assumes nothing.
use Rattle.std.specs.Prelude.{◌≡◌, ℕ, ◌*◌, ◌<◌, length}
use Rattle.matrix.specs.Paper.Code.{Matrix, entry}
use Rattle.matrix.specs.Paper.PlainCheck.{Sizes, BadEntry, BadWeight, Least, Never}

pub record Sized (H : Matrix) : Type 0 where
  pub sizes : Sizes H
  pub whole : length H.list ≡ H.m * H.rho

pub record Ordered (H : Matrix) : Type 0 where
  pub sized : Sized H
  pub clear : Never (BadEntry H) (length H.list)

pub record WeightsFit (H : Matrix) : Type 0 where
  pub inside : Never (BadWeight H) H.n
  pub least : (j : ℕ) × (j < H.n) × Least H j

-- the k-th column number of row i as the code has it: a column of the matrix, and one of the 1,023 of an array
pub record Column (H : Matrix) (i k c : ℕ) : Type 0 where
  pub is : c ≡ entry H i k
  pub inside : c < H.n
  pub below : c < 1023
