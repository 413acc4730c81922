-- `program_input::setting` meets its contract: each return is the verdict on the setting that the bytes say. Assumes nothing.
use mathlib.Core.Bool.{not}
use mathlib.Core.Path.{◌≡◌, sym, ap, ◌∙◌}
use mathlib.Core.Bool.{false}
use Prim.Native.Nat.{ℕ}
use borrow.Author.Tests.{not-true, not-false}
use lib.Ieee.{binary32, of_bits}
use lib.Ieee.Scale.{finite}
use Rattle.quantiser_levels.specs.Paper.Samples.{setting_fits}
use Rattle.byte_numbers.specs.Paper.Numbers.{float}
use Rattle.byte_numbers.proofs.Patterns.{no_nan}
use Rattle.program_input.specs.Paper.Input.{setting_in}
use Rattle.program_input.specs.Paper.Opening.{open_with}
use Rattle.program_input.proofs.Settings.{setting-is, kind-unfit, float-unfit, begins-refused, begins-ready}
use Rattle.program_input.proofs.setting.Goals as goal

pub returns-then-not-finite_pattern : goal.returns-then-not-finite_pattern
unfolding setting_in float
returns-then-not-finite_pattern c =
    let n = c in
    let bs = n.args.bytes.now in
    let off : finite (float bs 3) ≡ false =
    ap (λ (p : ℕ). finite (of_bits binary32 p)) (sym n.number32-p.ensures) ∙ sym c.finite_pattern.ensures ∙ not-true _ (ap not c.if-not-finite_pattern.true) in
    begins-refused (setting_in bs) (float-unfit (setting_in bs) off)

pub float_from_bits-p : goal.float_from_bits-p
float_from_bits-p c =
    let d = c in
    no_nan d.number32-p.result (sym d.finite_pattern.ensures ∙ not-false _ (ap not d.if-not-finite_pattern.false))

pub returns-in_default : goal.returns-in_default
unfolding setting_in
returns-in_default c = let bs = c.args.bytes.now in begins-refused (setting_in bs) (kind-unfit (setting_in bs) c.in_default.ensures)

pub returns-then-setting_fits : goal.returns-then-setting_fits
unfolding float
returns-then-setting_fits c =
    let bs = c.args.bytes.now in
    let k = c.in-Some.ensures in
    let e = setting-is bs c.wide.ensures.0 c.wide-2.ensures.0 k.0 (k.1 ∙ ap (of_bits binary32) c.number32-p.ensures) in
    ap open_with e ∙ begins-ready (setting_in bs) (sym (ap setting_fits e) ∙ sym c.setting_fits.ensures ∙ c.if-setting_fits.true)

pub returns-else-setting_fits : goal.returns-else-setting_fits
unfolding float
returns-else-setting_fits c =
    let bs = c.args.bytes.now in
    let k = c.in-Some.ensures in
    let e = setting-is bs c.wide.ensures.0 c.wide-2.ensures.0 k.0 (k.1 ∙ ap (of_bits binary32) c.number32-p.ensures) in
    begins-refused (setting_in bs) (sym (ap setting_fits e) ∙ sym c.setting_fits.ensures ∙ c.if-setting_fits.false)
