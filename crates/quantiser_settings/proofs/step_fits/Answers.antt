-- `quantiser_settings::step_fits` meets its contract: the code's two tests are the definition's. Assumes nothing.
use mathlib.Core.Path.{sym, ap, ◌∙◌}
use mathlib.Core.Bool.{Bool, ◌&&◌}
use lib.Ieee.{binary32, le, of_bits}
use Rattle.quantiser_levels.specs.Paper.Samples.{step_fits}
use Rattle.quantiser_settings.proofs.step_fits.Goals as goal

pub returns-then-d : goal.returns-then-d
unfolding of_bits step_fits
returns-then-d c = sym (ap (λ (b : Bool). b && le c.args.d (of_bits binary32 0x4980_0000)) c.if-d.true)

pub returns-else-d : goal.returns-else-d
unfolding of_bits step_fits
returns-else-d c = c.if-d.false ∙ sym (ap (λ (b : Bool). b && le c.args.d (of_bits binary32 0x4980_0000)) c.if-d.false)
