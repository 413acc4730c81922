-- Document 01's examples of widths.
--   example_setting b kind d   == a setting with the round limit 5, its step as the bit pattern of a single-format float
--   widths, every-width        == the widths around the range, and whether a setting may have them
-- Assumes nothing.
use Rattle.std.specs.Prelude.{ℕ, ◌≡◌, refl, Bool, true, false, List, [], ◌∷◌}
use Rattle.std.specs.Float.{binary32}
use Rattle.std.specs.Float.Ieee.{of_bits, of_fields, odd, le}
use Rattle.quantiser_levels.specs.Paper.Samples.{Setting, step_fits, setting_fits}

-- a setting with the round limit 5
unfoldable pub example_setting : ℕ → ℕ → ℕ → Setting
example_setting bits kind step = record { bits = bits; limit = 5; kind = kind; step = of_bits binary32 step }

-- "b = 8 passes, 9 is refusal 6": by card 7 9 passes and 13 is refusal 6; and so at the other end
unfoldable pub widths : List Bool
widths = fits 1 ∷ fits 2 ∷ fits 8 ∷ fits 9 ∷ fits 12 ∷ fits 13 ∷ []
  where
    fits : ℕ → Bool
    fits b = setting_fits (example_setting b 0 0x3f00_0000)

pub every-width : widths ≡ false ∷ true ∷ true ∷ true ∷ true ∷ false ∷ []
unfolding widths example_setting setting_fits step_fits of_bits of_fields odd le
every-width = refl
