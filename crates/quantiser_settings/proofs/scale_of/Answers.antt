-- `quantiser_settings::scale_of` meets its contract: a setting in range has a gain and a largest level of at most 11 bits,
-- and a step with its leading one. Assumes nothing.
use mathlib.Core.Path.{◌≡◌, refl, ap, ◌∙◌}
use mathlib.Core.Bool.{true, cond}
use Prim.Native.Nat.{ℕ, ◌≤◌, ◌<◌}
use native.Mathlib.Omega.{arith}
use lib.Dec.{eqb}
use Rattle.quantiser_settings.specs.declared.Step.{Step}
use Rattle.quantiser_settings.specs.declared.Step.TheVariants.{Level, FullScale}
use Rattle.quantiser_levels.specs.Paper.Samples.{step_fits, largest, most_level}
use Rattle.quantiser_settings.specs.Paper.Settings.{setting_of, kind_of}
use Rattle.quantiser_settings.specs.Paper.Ranges.{InRange}
use Rattle.quantiser_settings.specs.Gain.{gain_by}
use Rattle.quantiser_settings.proofs.Ranges.{fits-reads, largest-some, largest-most}
use Rattle.quantiser_levels.proofs.Floats.{step-finite, step-lead, moved}
use Rattle.quantiser_settings.proofs.scale_of.Goals as goal

-- the gain is that of the setting, and at least 1 and at most the largest level
gain-is : (s : Step) (t : ℕ) → gain_by s t ≡ cond (eqb (kind_of s) 0) 1 t
gain-is (Level d) t = refl
gain-is (FullScale f) t = refl

gain-in : (s : Step) (t : ℕ) → 0 < t → t ≤ most_level → (0 < gain_by s t) × (gain_by s t ≤ most_level)
gain-in (Level d) t h l = omega arith
gain-in (FullScale f) t h l = (h, l)

pub largest_of-requires : goal.largest_of-requires
largest_of-requires c =
    let range : InRange (setting_of c.args.setting) = fits-reads (setting_of c.args.setting) c.requires in
    ((range).least, (range).most)

pub take_apart-d-requires : goal.take_apart-d-requires
take_apart-d-requires c =
    let range : InRange (setting_of c.args.setting) = fits-reads (setting_of c.args.setting) c.requires in
    let step_in : step_fits c.step_of.result ≡ true = ap step_fits c.step_of.ensures ∙ (range).step in
    step-finite c.step_of.result (step_in)

pub returns : goal.returns
returns c =
    let range : InRange (setting_of c.args.setting) = fits-reads (setting_of c.args.setting) c.requires in
    let step_in : step_fits c.step_of.result ≡ true = ap step_fits c.step_of.ensures ∙ (range).step in
    let z = c in
    let s = z.args.setting in
    let t = c.from-top.ensures ∙ c.largest_of.ensures in
    let g = c.gain_by.ensures ∙ ap (gain_by s.step) t in
    let d = c.take_apart-d.ensures in
    let few = gain-in s.step (largest s.bits) (largest-some s.bits (range).least) (largest-most s.bits (range).most) in
    record {
      gains = g ∙ gain-is s.step (largest s.bits);
      tops = t;
      steps = (moved c.step_of.ensures d).value;
      narrow =
          record {
            some = omega (arith, g, few.0);
            few = omega (arith, g, few.1);
            most = omega (arith, t, largest-most s.bits (range).most);
            from = step-lead c.step_of.result (step_in) _ d;
            to = d.digits.below;
          };
    }
