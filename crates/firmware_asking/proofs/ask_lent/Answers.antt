-- `firmware_asking::ask_lent` meets its contract: refusal 6, then refusal 7 in two parts. Assumes nothing.
-- ---- what the tests that are passed say
use mathlib.Core.Bool.{not}
use mathlib.Core.Path.{ap}
use mathlib.Core.Path.{◌≡◌, sym, ◌∙◌}
use mathlib.Core.Bool.{true, false}
use Prim.Native.Nat.{◌*◌}
use native.Mathlib.Omega.{arith}
use borrow.Author.Tests.{not-true, not-false}
use Rattle.answers.specs.Paper.Answers.{wrong_lengths}
use Rattle.packed_word.specs.Paper.Packed.{bytes_for}
use Rattle.quantiser_levels.specs.Paper.Samples.{setting_fits}
use Rattle.quantiser_settings.specs.Paper.Settings.{setting_of}
use Rattle.firmware_asking.proofs.Questions.{lent-setting, lent-buffers, lent-report, lent-passes}
use Rattle.firmware_asking.proofs.ask_lent.Goals as goal

pub returns-then-not-setting_fits : goal.returns-then-not-setting_fits
returns-then-not-setting_fits c =
    let a = c.args in
    lent-setting a.n (setting_of a.setting) a.bytes a.word a.levels a.report
    (sym c.setting_fits.ensures ∙ not-true _ (ap not c.if-not-setting_fits.true))

pub returns-then-wrong_lengths : goal.returns-then-wrong_lengths
returns-then-wrong_lengths c =
    let fits : setting_fits (setting_of c.args.setting) ≡ true = sym c.setting_fits.ensures ∙ not-false _ (ap not c.if-not-setting_fits.false) in
    let e = c in
    let a = c.args in
    lent-buffers a.n (setting_of a.setting) a.bytes a.word a.levels a.report (fits)
    (sym c.wrong_lengths.ensures ∙ c.if-wrong_lengths.true)

pub returns-then-report-lt8 : goal.returns-then-report-lt8
returns-then-report-lt8 c =
    let fits : setting_fits (setting_of c.args.setting) ≡ true = sym c.setting_fits.ensures ∙ not-false _ (ap not c.if-not-setting_fits.false) in
    let lengths : let a = c.args in wrong_lengths a.bytes (4 * a.n) a.word (bytes_for a.n) a.levels (2 * a.n) ≡ false = sym c.wrong_lengths.ensures ∙ c.if-wrong_lengths.false in
    let b = c in
    let a = c.args in
    lent-report a.n (setting_of a.setting) a.bytes a.word a.levels a.report (fits) (lengths) c.if-report-lt8.true

pub returns : goal.returns
returns c =
    let fits : setting_fits (setting_of c.args.setting) ≡ true = sym c.setting_fits.ensures ∙ not-false _ (ap not c.if-not-setting_fits.false) in
    let lengths : let a = c.args in wrong_lengths a.bytes (4 * a.n) a.word (bytes_for a.n) a.levels (2 * a.n) ≡ false = sym c.wrong_lengths.ensures ∙ c.if-wrong_lengths.false in
    let b = c in
    let a = c.args in
    lent-passes a.n (setting_of a.setting) a.bytes a.word a.levels a.report (fits) (lengths)
    (omega (arith, c.if-report-lt8.false))
