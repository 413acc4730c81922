-- What a block of samples leaves in the arrays of a running decoder.
--   Placed S xs ..    == the samples' hard bits, their levels kept as R + L, and their marks are written at the front of the arrays
--   Took S xs r ..    == they are, and every sample is finite, where r is true; where it is false the arrays stay
-- Assumes nothing.
use Rattle.std.specs.Prelude.{◌≡◌, Bool, true, false, List, ℕ, Float, length, get_or}
use Rattle.std.specs.Float.{nan}
use Rattle.counting.specs.Paper.Lists.{listed, over}
use Rattle.quantiser_levels.specs.Paper.Samples.{Setting, largest, level_of, hard_bit, first_not_finite}
use Rattle.iterative_levels.specs.Levels.{biased}
use Rattle.iterative_changed.specs.Marks.{mark_of}

-- the bits z, the kept levels x and the marks o become z', x' and o'; the cells past the samples stay
pub record Placed (S : Setting) (xs : List Float) (z z' x x' o o' : List ℕ) : Type 0 where
  pub bits : z' ≡ over (listed (length xs) (hard_bit xs)) z
  pub kept : x' ≡ over (listed (length xs) (λ j. biased (largest S.bits) (level_of S (get_or xs j nan)))) x
  pub marks : o' ≡ over (listed (length xs) (λ j. mark_of (level_of S (get_or xs j nan)) (hard_bit xs j))) o

pub record Took (S : Setting) (xs : List Float) (r : Bool) (z z' x x' o o' : List ℕ) : Type 0 where
  pub finite : r ≡ true → first_not_finite xs ≡ length xs
  pub placed : r ≡ true → Placed S xs z z' x x' o o'
  pub same_bits : r ≡ false → z' ≡ z
  pub same_kept : r ≡ false → x' ≡ x
  pub same_marks : r ≡ false → o' ≡ o
