-- What the program's setting stands for where a kind of step crosses the exported functions as a number.
--   StandsFor S T   == T is S where S is in range, and is out of range where S is
-- Assumes nothing.
use Rattle.std.specs.Prelude.{◌≡◌, true}
use Rattle.quantiser_levels.specs.Paper.Samples.{Setting, setting_fits}

-- the program's setting has no third kind of step, so one that is out of range stands for it
pub record StandsFor (S T : Setting) : Type 0 where
  pub fits : setting_fits T ≡ setting_fits S
  pub same : setting_fits S ≡ true → T ≡ S
