-- The least pattern of a level by a scale: the contracts between the functions below the table.
--   magnitude_by g t d p   == the magnitude of the level of the pattern p, with the gain g, the largest level t and a step of d units
--   least_by g t d q       == the least pattern of a magnitude whose level is then q or more; that of infinity where there is none
--   Between g t d q a b    == the least pattern of q is then from a to b: none before a has a level of q or more, and b has one unless it is infinity's
-- Assumes nothing.
use Rattle.std.specs.Prelude.{ℕ, min, ◌*◌, ◌≤◌, ◌<◌, leb}
use Rattle.std.specs.Float.{binary32}
use Rattle.std.specs.Float.Ieee.{of_bits}
use Rattle.counting.specs.Paper.Search.{first}
use Rattle.quantiser_levels.specs.Paper.Samples.{units_of, nearest_whole}
use Rattle.quantiser_table.specs.Least.{most_pattern}

unfoldable pub magnitude_by : ℕ → ℕ → ℕ → ℕ → ℕ
magnitude_by g t d p = min t (nearest_whole (g * units_of (of_bits binary32 p)) d)

unfoldable pub least_by : ℕ → ℕ → ℕ → ℕ → ℕ
least_by g t d q = first (λ p. leb q (magnitude_by g t d p)) most_pattern

pub record Between (g t d q a b : ℕ) : Type 0 where
  pub order : a ≤ b
  pub most : b ≤ most_pattern
  pub low : (p : ℕ) → p < a → magnitude_by g t d p < q
  pub high : b < most_pattern → q ≤ magnitude_by g t d b
