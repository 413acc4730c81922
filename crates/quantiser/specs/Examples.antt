-- Document 01's examples of levels and hard bits, in one table with one proof.
--   Given, Yields   == a width, a step and a sample as bit patterns of single-format floats; the level and the hard bit
--   Row             == a sample with what it is to yield
--   made g          == what the definitions yield
--   each_made, each_wanted   == what they yield and are to yield for each row
--   table           == "With level step 0.5 and b = 3 ..", "With full scale 4 and b = 3 .."
--   every-row       == the definitions yield each row
-- Assumes nothing.
use Rattle.std.specs.Prelude.{ℕ, ◌≡◌, refl, List, [], ◌∷◌, ℤ, pos, negsuc}
use Rattle.std.specs.Float.{binary32}
use Rattle.std.specs.Float.Ieee.{of_bits, of_fields, odd, lt}
use Rattle.quantiser_levels.specs.Paper.Samples.{nearest_whole, magnitude, level_of, hard_of}
use Rattle.quantiser_settings.specs.Examples.{example_setting}

pub record Given : Type 0 where
  pub bits : ℕ
  pub kind : ℕ
  pub step : ℕ
  pub sample : ℕ

pub record Yields : Type 0 where
  pub level : ℤ
  pub hard : ℕ

pub record Row : Type 0 where
  pub given : Given
  pub yields : Yields

unfoldable pub made : Given → Yields
made g =
    record {
      level = level_of (example_setting g.bits g.kind g.step) (of_bits binary32 g.sample);
      hard = hard_of (of_bits binary32 g.sample);
    }

unfoldable pub each_made : List Row → List Yields
each_made [] = []
each_made (r ∷ rs) = made r.given ∷ each_made rs

unfoldable pub each_wanted : List Row → List Yields
each_wanted [] = []
each_wanted (r ∷ rs) = r.yields ∷ each_wanted rs

-- a sample with level step 0.5 and b = 3
abbrev half : ℕ → ℤ → ℕ → Row
half x level hard = record { given = record { bits = 3; kind = 0; step = 0x3f00_0000; sample = x }; yields = record { level = level; hard = hard } }

-- a sample with full scale 4 and b = 3
abbrev four : ℕ → ℤ → ℕ → Row
four x level hard = record { given = record { bits = 3; kind = 1; step = 0x4080_0000; sample = x }; yields = record { level = level; hard = hard } }

unfoldable pub table : List Row
table =
    -- 0.25, -0.25, 0.125
    half 0x3e80_0000 (pos 1) 1
    ∷ half 0xbe80_0000 (negsuc 0) 0
    ∷ half 0x3e00_0000 (pos 0) 1
    -- 1.25, -9, -0
    ∷ half 0x3fa0_0000 (pos 3) 1
    ∷ half 0xc110_0000 (negsuc 2) 0
    ∷ half 0x8000_0000 (pos 0) 0
    -- 2, -2, 0.5, 5
    ∷ four 0x4000_0000 (pos 2) 1
    ∷ four 0xc000_0000 (negsuc 1) 0
    ∷ four 0x3f00_0000 (pos 0) 1
    ∷ four 0x40a0_0000 (pos 3) 1
    ∷ []

pub every-row : each_made table ≡ each_wanted table
unfolding table each_made each_wanted made example_setting level_of magnitude nearest_whole hard_of of_bits of_fields odd lt
every-row = refl
