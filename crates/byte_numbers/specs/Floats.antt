-- What reading floats leaves in an array.
--   Sampled bs old new r     == r is the place of the first float that is not finite, and those before it are written
-- Assumes nothing.
use Rattle.std.specs.Prelude.{◌≡◌, List, ℕ, ◌/◌, Float, length}
use Rattle.counting.specs.Paper.Search.{first}
use Rattle.counting.specs.Paper.Lists.{listed, over}
use Rattle.byte_numbers.specs.Paper.Numbers.{sample_in, not_finite_in}

pub record Sampled (bs : List ℕ) (old new : List Float) (r : ℕ) : Type 0 where
  pub place : r ≡ first (not_finite_in bs) (length bs / 4)
  pub cells : new ≡ over (listed r (sample_in bs)) old
