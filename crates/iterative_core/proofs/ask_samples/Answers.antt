-- `iterative_core::ask_samples` meets its contract: its tests are refusals 6, 7 and 8, in this order. Assumes nothing.
-- ---- what the tests that are passed say
use mathlib.Core.Bool.{not}
use mathlib.Core.Path.{ap}
use mathlib.Core.Path.{◌≡◌, sym, ◌∙◌}
use mathlib.Core.Bool.{true, false}
use native.Mathlib.Omega.{arith}
use borrow.Author.Tests.{not-true, not-false}
use lib.ListN.{length}
use Rattle.answers.specs.Paper.Answers.{wrong_lengths}
use Rattle.answers.proofs.Verdicts.{lengths-fit}
use Rattle.packed_word.specs.Paper.Packed.{bytes_for}
use Rattle.quantiser_levels.specs.Paper.Samples.{setting_fits}
use Rattle.quantiser_settings.specs.Paper.Settings.{setting_of}
use Rattle.iterative_core.proofs.Questions.{says-setting, says-lengths, says-sample, says-finite}
use Rattle.iterative_core.proofs.ask_samples.Goals as goal

pub returns-then-not-setting_fits : goal.returns-then-not-setting_fits
returns-then-not-setting_fits c =
    let a = c.args in
    says-setting a.n (setting_of a.setting) a.samples.now a.bytes a.room (sym c.setting_fits.ensures ∙ not-true _ (ap not c.if-not-setting_fits.true))

pub returns-then-wrong_lengths : goal.returns-then-wrong_lengths
returns-then-wrong_lengths c =
    let fits : setting_fits (setting_of c.args.setting) ≡ true = sym c.setting_fits.ensures ∙ not-false _ (ap not c.if-not-setting_fits.false) in
    let b = c in
    let a = c.args in
    says-lengths a.n (setting_of a.setting) a.samples.now a.bytes a.room (fits) (sym c.wrong_lengths.ensures ∙ c.if-wrong_lengths.true)

pub overflow_cast-result : goal.overflow_cast-result
overflow_cast-result c =
    let lengths : let a = c.args in wrong_lengths (length a.samples.now) a.n a.bytes (bytes_for a.n) a.room a.n ≡ false = sym c.wrong_lengths.ensures ∙ c.if-wrong_lengths.false in
    let b = c in
    let s = c in
    let a = s.args in
    omega (arith, (lengths-fit (length a.samples.now) a.n a.bytes (bytes_for a.n) a.room a.n (lengths)).0, c.in-Some.ensures.1, s.requires)

pub returns-in-Some : goal.returns-in-Some
returns-in-Some c =
    let fits : setting_fits (setting_of c.args.setting) ≡ true = sym c.setting_fits.ensures ∙ not-false _ (ap not c.if-not-setting_fits.false) in
    let lengths : let a = c.args in wrong_lengths (length a.samples.now) a.n a.bytes (bytes_for a.n) a.room a.n ≡ false = sym c.wrong_lengths.ensures ∙ c.if-wrong_lengths.false in
    let b = c in
    let a = c.args in
    says-sample a.n (setting_of a.setting) a.samples.now a.bytes a.room (fits) (lengths) _ c.in-Some.ensures.0 c.in-Some.ensures.1

pub returns : goal.returns
returns c =
    let fits : setting_fits (setting_of c.args.setting) ≡ true = sym c.setting_fits.ensures ∙ not-false _ (ap not c.if-not-setting_fits.false) in
    let lengths : let a = c.args in wrong_lengths (length a.samples.now) a.n a.bytes (bytes_for a.n) a.room a.n ≡ false = sym c.wrong_lengths.ensures ∙ c.if-wrong_lengths.false in
    let b = c in
    let a = c.args in
    says-finite a.n (setting_of a.setting) a.samples.now a.bytes a.room (fits) (lengths) (length a.samples.now) (sym c.in_default.ensures) (omega arith)
