-- Laws of the setting that stands in seven bytes, and of how a run begins by it.
--   setting-is                     == the setting in the bytes, by its parts
--   kind-unfit                     == a setting with a third kind of step is out of range
--   float-unfit                    == a setting with a step that is not finite is out of range
--   begins-refused, begins-ready   == a setting out of range is refused as 6, one in range begins the run
-- Assumes nothing.
use mathlib.Core.Path.{◌≡◌, refl, ap}
use mathlib.Core.Bool.{Bool, true, false, ◌&&◌}
use mathlib.Core.List.{List}
use Prim.Native.Nat.{ℕ, ◌<◌}
use lib.Dec.{leb}
use lib.Ieee.{Float, nan, inf, fin, lt, eq, le}
use lib.Ieee.Scale.{finite}
use lib.ListN.{get_or}
use borrow.Author.Tests.{lt-leb}
use Rattle.counting.proofs.Searches.{never}
use Rattle.quantiser_levels.specs.Paper.Samples.{Setting, ranges_fit, step_fits, setting_fits}
use Rattle.quantiser_settings.specs.Numbers.{setting_by}
use Rattle.byte_numbers.specs.Paper.Numbers.{float}
use Rattle.program_input.specs.Paper.Input.{setting_in}
use Rattle.program_input.specs.Paper.Opening.{refused_by, open_with, opening, setting_verdict}

-- a step that is not finite is out of range
step-unfit : (x : Float) → finite x ≡ false → step_fits x ≡ false
unfolding step_fits le lt eq
step-unfit nan h = refl
step-unfit (inf true) h = refl
step-unfit (inf false) h = refl
step-unfit (fin s m e) h = absurd (never h)

-- the setting by its parts
pub setting-is : (bs : List ℕ) {b l k : ℕ} {x : Float} → b ≡ get_or bs 0 0 → l ≡ get_or bs 1 0 → k ≡ get_or bs 2 0 → x ≡ float bs 3 → setting_by b l k x ≡ setting_in bs
unfolding setting_in
setting-is bs p q r s = rw (p, q, r, s)

-- a conjunction fails where its last part does
and-off : (a : Bool) {b : Bool} → b ≡ false → (a && b) ≡ false
and-off true e = e
and-off false e = refl

module _ (S : Setting) where
  last-unfit : (leb S.kind 1 && step_fits S.step) ≡ false → setting_fits S ≡ false
  unfolding setting_fits
  last-unfit e = and-off (ranges_fit S.bits S.limit) e

  -- a third kind of step
  pub kind-unfit : 1 < S.kind → setting_fits S ≡ false
  kind-unfit h = last-unfit (ap (λ (t : Bool). t && step_fits S.step) (lt-leb S.kind 1 h))

  -- a step that is not finite
  pub float-unfit : finite S.step ≡ false → setting_fits S ≡ false
  float-unfit e = last-unfit (and-off (leb S.kind 1) (step-unfit S.step e))

  -- how the run begins
  pub begins-refused : setting_fits S ≡ false → refused_by 6 0 ≡ opening (setting_verdict S) S
  unfolding setting_verdict
  begins-refused e = rw e

  pub begins-ready : setting_fits S ≡ true → open_with S ≡ opening (setting_verdict S) S
  unfolding setting_verdict
  begins-ready e = rw e
