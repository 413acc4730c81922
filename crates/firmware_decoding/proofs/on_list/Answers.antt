-- `firmware_decoding::on_list` meets its contract: the matrix check's refusal keeps all three buffers, else what follows. Assumes nothing.
use mathlib.Core.Path.{sym}
use lib.ListN.{length}
use Rattle.answers.specs.Paper.Answers.{Verdict}
use Rattle.answers.specs.Paper.Enums.{refusal_number, refusal_place}
use Rattle.answers.proofs.Verdicts.{handed_on}
use Rattle.matrix.specs.Paper.Code.{Matrix}
use Rattle.matrix.specs.Paper.Check.{check_of}
use Rattle.matrix.specs.Paper.Shapes.{matrix_of}
use Rattle.matrix.proofs.PlainCheck.{accepted-is}
use Rattle.quantiser_settings.specs.Paper.Settings.{setting_of}
use Rattle.firmware_asking.specs.Paper.Asked.{bytes_verdict}
use Rattle.firmware_decoding.proofs.Answers.{answered-stops, answered-next}
use Rattle.firmware_decoding.proofs.on_list.Goals as goal

pub on_accepted-requires : goal.on_accepted-requires
on_accepted-requires c =
    let lent : Matrix = matrix_of c.args.shape c.args.list.now in
    let t = c in
    let k = t in
    let s = k in
    accepted-is (lent) (sym t.in_ok-check.ensures)

pub returns : goal.returns
returns c =
    let lent : Matrix = matrix_of c.args.shape c.args.list.now in
    let next : Verdict = bytes_verdict c.args.shape.n (setting_of c.args.setting) c.args.samples.now (length c.args.word.now) (length c.args.levels.now)
    (length c.args.report.now) in
    let r = c in
    let t = r in
    let k = t in
    let s = k in
    answered-next (check_of (lent)) (next) (sym t.in_ok-check.ensures) r.on_accepted.ensures

pub returns-in_err-check : goal.returns-in_err-check
returns-in_err-check c =
    let lent : Matrix = matrix_of c.args.shape c.args.list.now in
    let next : Verdict = bytes_verdict c.args.shape.n (setting_of c.args.setting) c.args.samples.now (length c.args.word.now) (length c.args.levels.now)
    (length c.args.report.now) in
    let a = c in
    let k = a in
    let s = k in
    let e = handed_on _ _ c.from_residual.ensures.1 in
    rw e (answered-stops (lent) (setting_of s.args.setting) s.args.samples.now s.args.word.now s.args.levels.now s.args.report.now
    (check_of (lent)) (next) (refusal_number a.in_err-check.field-0.0) (refusal_place a.in_err-check.field-0.0) (sym a.in_err-check.ensures))
