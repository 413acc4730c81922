-- How many rows of a column are listed.
--   length-rows    == the rows of a column before row i are as many as the column's ones there
-- Assumes nothing.
use mathlib.Core.Path.{◌≡◌, refl, ◌∙◌}
use Prim.Native.Nat.{ℕ, zero, suc}
use native.Mathlib.Omega.{arith}
use lib.ListN.{length, replicate, length-append, length-replicate}
use Rattle.counting.specs.Paper.Sum.{sum_below}
use Rattle.matrix.specs.Paper.Code.{Matrix, has}
use Rattle.matrix_index.specs.Paper.Index.{rows_of}
use Rattle.matrix_index.specs.Filling.{before}

module _ (H : Matrix) where
  -- the rows of a column before row i are as many as the column's ones there
  pub length-rows : (j i : ℕ) → length (rows_of H j i) ≡ before H i j
  unfolding rows_of before sum_below
  length-rows j zero = refl
  length-rows j (suc i) =
      length-append (rows_of H j i) (replicate (has H i j) i) ∙ omega (arith, length-rows j i, length-replicate {A = ℕ} (has H i j) i)
