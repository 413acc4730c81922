-- `quantiser::quantise` meets its contract: each answer follows the tests that led to it, in the order of the verdict
-- (`proofs/Verdicts.antt`). Assumes nothing.
use mathlib.Core.Bool.{not}
use mathlib.Core.Path.{◌≡◌, sym, ap, ◌∙◌}
use mathlib.Core.Bool.{true, false}
use Prim.Native.Nat.{◌≤◌}
use native.Mathlib.Omega.{arith}
use borrow.Author.Tests.{not-true, not-false}
use lib.ListN.{length}
use Rattle.counting.proofs.Searches.{first-le}
use Rattle.answers.specs.Paper.Answers.{refused}
use Rattle.packed_word.specs.Paper.Packed.{bytes_for}
use Rattle.quantiser_levels.specs.Paper.Samples.{setting_fits, not_finite, first_not_finite, too_short}
use Rattle.quantiser_levels.proofs.Firsts.{place-or-length}
use Rattle.quantiser_settings.specs.Paper.Settings.{setting_of}
use Rattle.quantiser.proofs.Buffers.{filled-bit}
use Rattle.quantiser.proofs.Verdicts.{verdict-setting, verdict-buffer, verdict-sample, verdict-accepted, long-enough}
use Rattle.quantiser.proofs.Verdicts.{quantised-refused, quantised-accepted}
use Rattle.quantiser.proofs.quantise.Goals as goal

pub returns-then-not-setting_fits : goal.returns-then-not-setting_fits
returns-then-not-setting_fits c =
    let a = c.args in
    quantised-refused (verdict-setting (setting_of a.setting) a.samples.now _ _ (sym c.setting_fits.ensures ∙ not-true _ (ap not c.if-not-setting_fits.true)))

pub returns-then-too_short : goal.returns-then-too_short
returns-then-too_short c =
    let fits : setting_fits (setting_of c.args.setting) ≡ true = sym c.setting_fits.ensures ∙ not-false _ (ap not c.if-not-setting_fits.false) in
    let e = c in
    let a = e.args in
    quantised-refused (verdict-buffer (setting_of a.setting) a.samples.now _ _ (fits) (sym c.too_short.ensures ∙ c.if-too_short.true))

pub overflow_cast-result : goal.overflow_cast-result
overflow_cast-result c =
    let enough : let a = c.args in too_short (length a.samples.now) (length a.levels.now) (length a.word.now) ≡ false = sym c.too_short.ensures ∙ c.if-too_short.false in
    let wide : let a = c.args in let n = length a.samples.now in (n ≤ 1023) × (n ≤ length a.levels.now) × (bytes_for n ≤ length a.word.now) = long-enough _ _ _ (enough) in
    omega (arith, c.if-place-n.true, wide)

pub returns-then-place-n : goal.returns-then-place-n
returns-then-place-n c =
    let fits : setting_fits (setting_of c.args.setting) ≡ true = sym c.setting_fits.ensures ∙ not-false _ (ap not c.if-not-setting_fits.false) in
    let enough : let a = c.args in too_short (length a.samples.now) (length a.levels.now) (length a.word.now) ≡ false = sym c.too_short.ensures ∙ c.if-too_short.false in
    let e = c in
    let a = e.args in
    let q = c.unwrap_or-place.ensures ∙ place-or-length (first_not_finite a.samples.now) (length a.samples.now) c.first_not_finite.result c.first_not_finite.ensures in
    quantised-refused
    (verdict-sample (setting_of a.setting) a.samples.now _ _ (fits) (enough) (omega (arith, q, c.if-place-n.true))
    ∙ ap (refused 8) (sym q))

pub fill-requires : goal.fill-requires
fill-requires c =
    let enough : let a = c.args in too_short (length a.samples.now) (length a.levels.now) (length a.word.now) ≡ false = sym c.too_short.ensures ∙ c.if-too_short.false in
    let wide : let a = c.args in let n = length a.samples.now in (n ≤ 1023) × (n ≤ length a.levels.now) × (bytes_for n ≤ length a.word.now) = long-enough _ _ _ (enough) in
    let fits : setting_fits (setting_of c.args.setting) ≡ true = sym c.setting_fits.ensures ∙ not-false _ (ap not c.if-not-setting_fits.false) in
    let all : let xs = c.args.samples.now in first_not_finite xs ≡ length xs = let xs = c.args.samples.now in
    let q = c.unwrap_or-place.ensures ∙ place-or-length (first_not_finite xs) (length xs) c.first_not_finite.result c.first_not_finite.ensures in
    omega (arith, q, c.if-place-n.false, first-le (not_finite xs) (length xs)) in
    let e = c in
    let n = wide in
    record { setting = fits; each_finite = all; few = n.0; room = n.1 }

pub pack_into-requires : goal.pack_into-requires
pack_into-requires c =
    let enough : let a = c.args in too_short (length a.samples.now) (length a.levels.now) (length a.word.now) ≡ false = sym c.too_short.ensures ∙ c.if-too_short.false in
    let wide : let a = c.args in let n = length a.samples.now in (n ≤ 1023) × (n ≤ length a.levels.now) × (bytes_for n ≤ length a.word.now) = long-enough _ _ _ (enough) in
    let f = c in
    let n = wide in
    (n.0, n.2, λ j l. filled-bit f.fill.ensures j l)

pub returns : goal.returns
returns c =
    let fits : setting_fits (setting_of c.args.setting) ≡ true = sym c.setting_fits.ensures ∙ not-false _ (ap not c.if-not-setting_fits.false) in
    let enough : let a = c.args in too_short (length a.samples.now) (length a.levels.now) (length a.word.now) ≡ false = sym c.too_short.ensures ∙ c.if-too_short.false in
    let all : let xs = c.args.samples.now in first_not_finite xs ≡ length xs = let xs = c.args.samples.now in
    let q = c.unwrap_or-place.ensures ∙ place-or-length (first_not_finite xs) (length xs) c.first_not_finite.result c.first_not_finite.ensures in
    omega (arith, q, c.if-place-n.false, first-le (not_finite xs) (length xs)) in
    let p = c in
    let f = p in
    let e = f in
    let a = e.args in
    quantised-accepted
    (verdict-accepted (setting_of a.setting) a.samples.now _ _ (fits) (enough) (all))
    f.fill.ensures
    p.pack_into.ensures
