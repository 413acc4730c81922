-- The setting that stands for the lent one.
--   pattern-stands   == a step of 0 stands for a pattern that is not finite
--   step-or_zero     == the step that is used: the pattern's float, or 0
--   stands-through   == what stands for a stand-in stands for the setting
-- Assumes nothing.
use mathlib.Core.Path.{◌≡◌, refl, sym, ap, subst, ◌∙◌}
use mathlib.Core.Bool.{Bool, true, false, cond, ◌&&◌}
use Prim.Native.Nat.{ℕ}
use Rattle.std.specs.Prelude.{Option, Some, None}
use Rattle.std.specs.Option.{unwrap_or}
use lib.Dec.{T, leb}
use lib.Ieee.{Float, binary32, of_bits}
use lib.Ieee.Scale.{finite}
use Rattle.counting.proofs.Searches.{cases, never}
use Rattle.quantiser_levels.specs.Paper.Samples.{Setting, ranges_fit, step_fits, setting_fits}
use Rattle.quantiser_levels.proofs.Floats.{step-finite}
use Rattle.quantiser_settings.specs.Numbers.{setting_by}
use Rattle.ffi_codes.specs.Settings.{StandsFor}
use Rattle.firmware_asking.specs.Paper.Asked.{face_setting}
use Rattle.firmware_asking.proofs.ZeroStep.{zero-unfit}

-- a test that fails makes a conjunction of three fail
none_of : (a b : Bool) → (a && (b && false)) ≡ false
none_of true true = refl
none_of true false = refl
none_of false b = refl

-- a setting whose step is out of range is out of range
unfit-step : (S : Setting) → step_fits S.step ≡ false → setting_fits S ≡ false
unfolding setting_fits
unfit-step S e = rw e (none_of (ranges_fit S.bits S.limit) (leb S.kind 1))

-- so is a float that is not finite
not-finite-unfit : (x : Float) → finite x ≡ false → step_fits x ≡ false
not-finite-unfit x n = cases (step_fits x) (λ y. absurd (subst T n (step-finite x y))) (λ e. e)

-- the step 0 stands for a pattern that is not finite, any other for itself
pub pattern-stands : (bits limit kind p : ℕ) (x : Float) → x ≡ cond (finite (of_bits binary32 p)) (of_bits binary32 p) (of_bits binary32 0)
    → StandsFor (face_setting bits limit kind p) (setting_by bits limit kind x)
pattern-stands bits limit kind p x e =
    cases (finite (of_bits binary32 p))
    (λ y.
    let q : setting_by bits limit kind x ≡ face_setting bits limit kind p =
    ap (setting_by bits limit kind) (e ∙ ap (λ (b : Bool). cond b (of_bits binary32 p) (of_bits binary32 0)) y) in
    record { fits = ap setting_fits q; same = λ f. q })
    (λ n.
    let q : x ≡ of_bits binary32 0 = e ∙ ap (λ (b : Bool). cond b (of_bits binary32 p) (of_bits binary32 0)) n in
    let off = unfit-step (face_setting bits limit kind p) (not-finite-unfit (of_bits binary32 p) n) in
    record {
      fits = unfit-step (setting_by bits limit kind x) (ap step_fits q ∙ zero-unfit) ∙ sym off;
      same = λ f. absurd (never (sym f ∙ off));
    })

-- the step as it is used: the pattern's float, or 0 for one that is not finite
pub step-or_zero : (p : ℕ) {o : Option Float} {x : Float} → o ≡ cond (finite (of_bits binary32 p)) (Some (of_bits binary32 p)) None
    → x ≡ unwrap_or o (of_bits binary32 0) → x ≡ cond (finite (of_bits binary32 p)) (of_bits binary32 p) (of_bits binary32 0)
step-or_zero p {o} {x} e u =
    u ∙ ap (λ (y : Option Float). unwrap_or y (of_bits binary32 0)) e
    ∙ cases (finite (of_bits binary32 p)) (λ y. rw y refl) (λ n. rw n refl)

-- what stands for a stand-in stands for the setting
pub stands-through : {R S T : Setting} → StandsFor R S → StandsFor S T → StandsFor R T
stands-through a b =
    record { fits = b.fits ∙ a.fits; same = λ f. b.same (a.fits ∙ f) ∙ a.same f }
