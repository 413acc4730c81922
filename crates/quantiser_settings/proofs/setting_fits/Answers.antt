-- `quantiser_settings::setting_fits` meets its contract: width and limit are asked first, and both kinds of step are at most 1. Assumes nothing.
use mathlib.Core.Path.{◌≡◌, refl, sym, ap, ◌∙◌}
use mathlib.Core.Bool.{true}
use lib.Dec.{leb}
use Rattle.quantiser_settings.specs.declared.Step.{Step}
use Rattle.quantiser_settings.specs.declared.Step.TheVariants.{Level, FullScale}
use Rattle.quantiser_levels.specs.Paper.Samples.{step_fits, setting_fits}
use Rattle.quantiser_settings.specs.Paper.Settings.{kind_of}
use Rattle.quantiser_settings.proofs.setting_fits.Goals as goal

kind_fits : (s : Step) → leb (kind_of s) 1 ≡ true
kind_fits (Level d) = refl
kind_fits (FullScale f) = refl

pub returns-else-ranges_fit : goal.returns-else-ranges_fit
unfolding setting_fits
returns-else-ranges_fit c = rw (sym c.ranges_fit.ensures ∙ c.if-ranges_fit.false) c.if-ranges_fit.false

pub returns-then-ranges_fit : goal.returns-then-ranges_fit
unfolding setting_fits
returns-then-ranges_fit c =
    let z = c in
    rw (sym z.ranges_fit.ensures ∙ z.if-ranges_fit.true, kind_fits z.args.s.step)
    (c.step_fits.ensures ∙ ap step_fits c.step_of.ensures)
