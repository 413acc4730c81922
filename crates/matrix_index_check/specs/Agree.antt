-- Matrix and index asked together.
--   gaps_in n x   == the array in which the gaps between the starting places of x are written: the weights of n columns
--   Agree H x r   == r says whether refusals 1 to 4 pass the matrix H and x is its own index
-- Assumes nothing.
use Rattle.std.specs.Prelude.{◌≡◌, Bool, true, false, List, ℕ, replicate}
use Rattle.counting.specs.Paper.Lists.{listed, over}
use Rattle.matrix.specs.Paper.Code.{Matrix}
use Rattle.matrix.specs.Ordered.{Ordered, WeightsFit}
use Rattle.matrix_degrees.specs.Degrees.{gap}
use Rattle.matrix_index_replay.specs.Replay.{Own}

-- the weights of n columns by the starting places
abbrev pub gaps_in : ℕ → List ℕ → List ℕ
gaps_in n x = over (listed n (gap x)) (replicate 1023 0)

-- what is said of both
pub record Agree (H : Matrix) (x : List ℕ) (r : Bool) : Type 0 where
  pub so : r ≡ true → Ordered H × Own H x × WeightsFit H
  pub not_so : r ≡ false → Ordered H → Own H x → WeightsFit H → ⊥
