-- The step that stands for no step.
--   zero-unfit   == a step of 0 is out of range
-- Assumes nothing.
use mathlib.Core.Path.{◌≡◌, refl}
use mathlib.Core.Bool.{false}
use lib.Ieee.{binary32, of_bits, of_fields, odd, le}
use Rattle.quantiser_levels.specs.Paper.Samples.{step_fits}

pub zero-unfit : step_fits (of_bits binary32 0) ≡ false
unfolding step_fits le of_bits of_fields odd
zero-unfit = refl
