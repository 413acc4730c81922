-- `firmware_decoding::on_accepted` meets its contract: a refusal by 6 or 7 keeps all three buffers, else what follows. Assumes nothing.
use mathlib.Core.Path.{◌≡◌, sym}
use lib.ListN.{length}
use Rattle.answers.specs.Paper.Answers.{Verdict, accepted, refuse_at, and_then}
use Rattle.answers.specs.Paper.Enums.{refusal_number, refusal_place}
use Rattle.answers.proofs.Verdicts.{handed_on}
use Rattle.byte_numbers.specs.Paper.Numbers.{samples_in}
use Rattle.matrix.specs.Paper.Shapes.{matrix_of}
use Rattle.quantiser_levels.specs.Paper.Samples.{first_not_finite}
use Rattle.quantiser_settings.specs.Paper.Settings.{setting_of}
use Rattle.firmware_asking.specs.Paper.Asked.{bytes_verdict}
use Rattle.firmware_asking.specs.Asking.{lent_verdict}
use Rattle.firmware_asking.proofs.Questions.{bytes-asks, lent_fits}
use Rattle.firmware_decoding.proofs.Answers.{answered-by, answered-stops, answered-next}
use Rattle.firmware_decoding.proofs.on_accepted.Goals as goal

pub on_bytes-requires : goal.on_bytes-requires
on_bytes-requires c =
    let t = c in
    let k = t in
    let s = k in
    lent_fits (matrix_of s.args.shape s.args.list.now) _ _ _ _ _ s.requires (sym t.in_ok-ask_lent.ensures)

pub returns : goal.returns
returns c =
    let first : Verdict = lent_verdict c.args.shape.n (setting_of c.args.setting) (length c.args.samples.now) (length c.args.word.now)
    (length c.args.levels.now) (length c.args.report.now) in
    let next : Verdict = refuse_at 8 (first_not_finite (samples_in c.args.samples.now)) (length (samples_in c.args.samples.now)) accepted in
    let asks : bytes_verdict c.args.shape.n (setting_of c.args.setting) c.args.samples.now (length c.args.word.now) (length c.args.levels.now) (length c.args.report.now) ≡ and_then (first) (next) = bytes-asks c.args.shape.n (setting_of c.args.setting) c.args.samples.now (length c.args.word.now) (length c.args.levels.now)
    (length c.args.report.now) in
    let r = c in
    let t = r in
    let k = t in
    let s = k in
    answered-by (asks) (answered-next (first) (next) (sym t.in_ok-ask_lent.ensures) r.on_bytes.ensures)

pub returns-in_err-ask_lent : goal.returns-in_err-ask_lent
returns-in_err-ask_lent c =
    let first : Verdict = lent_verdict c.args.shape.n (setting_of c.args.setting) (length c.args.samples.now) (length c.args.word.now)
    (length c.args.levels.now) (length c.args.report.now) in
    let next : Verdict = refuse_at 8 (first_not_finite (samples_in c.args.samples.now)) (length (samples_in c.args.samples.now)) accepted in
    let asks : bytes_verdict c.args.shape.n (setting_of c.args.setting) c.args.samples.now (length c.args.word.now) (length c.args.levels.now) (length c.args.report.now) ≡ and_then (first) (next) = bytes-asks c.args.shape.n (setting_of c.args.setting) c.args.samples.now (length c.args.word.now) (length c.args.levels.now)
    (length c.args.report.now) in
    let a = c in
    let k = a in
    let s = k in
    let e = handed_on _ _ c.from_residual.ensures.1 in
    rw e (answered-by (asks)
    (answered-stops (matrix_of s.args.shape s.args.list.now) (setting_of s.args.setting) s.args.samples.now s.args.word.now
    s.args.levels.now s.args.report.now (first) (next) (refusal_number a.in_err-ask_lent.field-0.0) (refusal_place a.in_err-ask_lent.field-0.0)
    (sym a.in_err-ask_lent.ensures)))
