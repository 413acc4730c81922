-- Refusals 6 to 8 in plain words.
--   Acceptable S xs l b   == the setting S is in range, there are at most 1,023 samples, room for l levels and b bytes of them, and all are finite
-- Assumes nothing.
use Rattle.std.specs.Prelude.{List, ℕ, ◌≤◌, ◌<◌, T, Float, length, get_or}
use Rattle.std.specs.Float.{nan}
use Rattle.std.specs.Float.Ieee.Scale.{finite}
use Rattle.packed_word.specs.Paper.Packed.{bytes_for}
use Rattle.quantiser_levels.specs.Paper.Samples.{Setting}
use Rattle.quantiser_settings.specs.Paper.Ranges.{InRange}

pub record Acceptable (S : Setting) (xs : List Float) (l b : ℕ) : Type 0 where
  pub setting : InRange S
  pub few : length xs ≤ 1023
  pub levels : length xs ≤ l
  pub bytes : bytes_for (length xs) ≤ b
  pub each : (j : ℕ) → j < length xs → T (finite (get_or xs j nan))
