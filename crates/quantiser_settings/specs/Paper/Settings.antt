-- The program's setting in document 01's terms.
--   kind_of, float_of   == the kind and the float of a step
--   setting_of s       == bit width, round limit, kind of step (0 level step, 1 full scale) and step
-- Assumes nothing.
use Rattle.std.specs.Prelude.{ℕ, Float}
use Rattle.quantiser_levels.specs.Paper.Samples.{Setting}
use Rattle.quantiser_settings.specs.declared.Setting as program
use Rattle.quantiser_settings.specs.declared.Step.{Step}
use Rattle.quantiser_settings.specs.declared.Step.TheVariants.{Level, FullScale}

abbrev pub kind_of : Step → ℕ
kind_of (Level d) = 0
kind_of (FullScale f) = 1

abbrev pub float_of : Step → Float
float_of (Level d) = d
float_of (FullScale f) = f

abbrev pub setting_of : program.Setting → Setting
setting_of s = record { bits = s.bits; limit = s.limit; kind = kind_of s.step; step = float_of s.step }
