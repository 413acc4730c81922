-- What a part of the matrix check says.
--   Fits H r   == r says whether refusals 1 and 2 pass the matrix
-- Assumes nothing.
use Rattle.std.specs.Prelude.{◌≡◌, Bool, true, false}
use Rattle.matrix.specs.Paper.Code.{Matrix}
use Rattle.matrix.specs.Ordered.{Sized}

-- whether refusals 1 and 2 pass the matrix
pub record Fits (H : Matrix) (r : Bool) : Type 0 where
  pub so : r ≡ true → Sized H
  pub not_so : r ≡ false → Sized H → ⊥
