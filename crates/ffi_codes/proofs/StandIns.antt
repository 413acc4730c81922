-- The program's setting for each kind of step stands for the lent one.
--   other-kind    == a setting with a step of another kind is out of range
--   zero-step     == so is one with the step 0
--   stands-none   == for such a kind the setting with the step 0 stands for the lent one
-- Assumes nothing.
use mathlib.Core.Path.{◌≡◌, refl, sym, ◌∙◌}
use mathlib.Core.Bool.{Bool, true, false, ◌&&◌}
use Prim.Native.Nat.{ℕ, ◌<◌}
use lib.Ieee.{Float, binary32, of_bits, of_fields, odd, le}
use borrow.Author.Tests.{lt-leb}
use Rattle.counting.proofs.Searches.{never}
use Rattle.quantiser_levels.specs.Paper.Samples.{ranges_fit, step_fits, setting_fits}
use Rattle.quantiser_settings.specs.Numbers.{setting_by}
use Rattle.ffi_codes.specs.Settings.{StandsFor}

-- a test that fails makes a conjunction fail
and_none : (a : Bool) → (a && false) ≡ false
and_none true = refl
and_none false = refl

-- a step of another kind
pub other-kind : (bits limit kind : ℕ) (step : Float) → 1 < kind → setting_fits (setting_by bits limit kind step) ≡ false
unfolding setting_fits
other-kind bits limit kind step h =
    rw (lt-leb kind 1 h, and_none (ranges_fit bits limit))

-- and the step 0 that stands for it
pub zero-step : (bits limit : ℕ) → setting_fits (setting_by bits limit 0 (of_bits binary32 0)) ≡ false
unfolding setting_fits step_fits le of_bits of_fields odd
zero-step bits limit = rw (and_none (ranges_fit bits limit))

-- for another kind the setting with the step 0 stands for the lent one
pub stands-none : (bits limit kind : ℕ) (step : Float) → 1 < kind → StandsFor (setting_by bits limit kind step) (setting_by bits limit 0 (of_bits binary32 0))
stands-none bits limit kind step h =
    record {
      fits = zero-step bits limit ∙ sym (other-kind bits limit kind step h);
      same = λ y. absurd (never (sym y ∙ other-kind bits limit kind step h));
    }
