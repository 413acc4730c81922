-- Refusal 6 in plain words.
--   InRange S   == width, round limit, kind and step of the setting S are each in range
-- Assumes nothing.
use Rattle.std.specs.Prelude.{◌≡◌, true, ◌≤◌}
use Rattle.quantiser_levels.specs.Paper.Samples.{Setting, most_bits, step_fits}

pub record InRange (S : Setting) : Type 0 where
  pub least : 2 ≤ S.bits
  pub most : S.bits ≤ most_bits
  pub limit : S.limit ≤ 255
  pub kind : S.kind ≤ 1
  pub step : step_fits S.step ≡ true
