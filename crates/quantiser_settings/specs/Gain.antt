-- What a sample is multiplied by, by the program's step.
--   gain_by k t       == what a sample is multiplied by
-- Assumes nothing.
use Rattle.std.specs.Prelude.{ℕ}
use Rattle.quantiser_settings.specs.declared.Step.{Step}
use Rattle.quantiser_settings.specs.declared.Step.TheVariants.{Level, FullScale}

-- what a sample is multiplied by: 1 with a level step, the largest level t with a full scale
abbrev pub gain_by : Step → ℕ → ℕ
gain_by (Level d) t = 1
gain_by (FullScale f) t = t
