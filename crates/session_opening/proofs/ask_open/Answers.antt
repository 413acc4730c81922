-- `session_opening::ask_open` meets its contract: the matrix is asked first, then what is lent with it. Assumes nothing.
use mathlib.Core.Path.{sym}
use Rattle.answers.specs.Paper.Enums.{refusal_number, refusal_place}
use Rattle.answers.proofs.Verdicts.{handed_on}
use Rattle.matrix.specs.Paper.Code.{Matrix}
use Rattle.matrix.specs.Paper.Shapes.{matrix_of}
use Rattle.matrix.proofs.PlainCheck.{accepted-is}
use Rattle.quantiser_settings.specs.Paper.Settings.{setting_of}
use Rattle.session_asking.proofs.Parts.{says-open-matrix, says-samples}
use Rattle.session_opening.proofs.ask_open.Goals as goal

pub ask_samples-requires : goal.ask_samples-requires
ask_samples-requires c =
    let lent_matrix : Matrix = matrix_of c.args.shape c.args.list.now in
    let k = c in
    (accepted-is (lent_matrix) (sym c.in_ok-check.ensures)).sizes.n_most

pub returns : goal.returns
returns c =
    let lent_matrix : Matrix = matrix_of c.args.shape c.args.list.now in
    let k = c in
    let s = c in
    says-samples (lent_matrix) (setting_of s.args.setting) s.args.samples.now s.args.bytes s.args.room _
    (sym c.in_ok-check.ensures) c.ask_samples.ensures

pub returns-in_err-check : goal.returns-in_err-check
returns-in_err-check c =
    let lent_matrix : Matrix = matrix_of c.args.shape c.args.list.now in
    let k = c in
    let s = c in
    let e = handed_on _ _ c.from_residual.ensures.1 in
    rw e (says-open-matrix (lent_matrix) (setting_of s.args.setting) s.args.samples.now s.args.bytes s.args.room (refusal_number c.in_err-check.field-0.0)
    (refusal_place c.in_err-check.field-0.0)
    (sym c.in_err-check.ensures))
