-- How one level is computed: the contracts between the functions below the quantiser.
--   level_by g t d x      == the level of x with the gain g, the largest level t and a step of d units
--   level_at g t d xs j   == that of sample j
--   Digits n k            == n has at most 24 digits, and has 24 unless the shift k is 0
--   Apart x s n k         == x has the sign s and the magnitude n * 2 ^ k units
--   Narrow g t n          == gain, largest level and step are small enough for a division of 64 bits
--   Scaled S g t n k      == gain, largest level and the step's n * 2 ^ k units are those of the setting S
-- Assumes nothing.
use Rattle.std.specs.Prelude.{◌≡◌, Bool, List, ℕ, min, ◌-◌, ◌*◌, ◌^◌, ◌≤◌, ◌<◌, ℤ, Float, get_or}
use Rattle.std.specs.Float.{nan}
use Rattle.quantiser_levels.specs.Paper.Samples.{Setting, units_of, negative, most_bits, largest, gain, nearest_whole, signed}

unfoldable pub level_by : ℕ → ℕ → ℕ → Float → ℤ
level_by g t d x = signed (negative x) (min t (nearest_whole (g * units_of x) d))

unfoldable pub level_at : ℕ → ℕ → ℕ → List Float → ℕ → ℤ
level_at g t d xs j = level_by g t d (get_or xs j nan)

pub record Digits (n k : ℕ) : Type 0 where
  pub below : n < 2 ^ 24
  pub lead : 0 < k → 2 ^ 23 ≤ n

pub record Apart (x : Float) (s : Bool) (n k : ℕ) : Type 0 where
  pub sign : s ≡ negative x
  pub value : units_of x ≡ n * 2 ^ k
  pub digits : Digits n k

pub record Narrow (g t n : ℕ) : Type 0 where
  pub some : 0 < g
  pub few : g < 2 ^ (most_bits - 1)
  pub most : t < 2 ^ (most_bits - 1)
  pub from : 2 ^ 23 ≤ n
  pub to : n < 2 ^ 24

pub record Scaled (S : Setting) (g t n k : ℕ) : Type 0 where
  pub gains : g ≡ gain S
  pub tops : t ≡ largest S.bits
  pub steps : units_of S.step ≡ n * 2 ^ k
  pub narrow : Narrow g t n
