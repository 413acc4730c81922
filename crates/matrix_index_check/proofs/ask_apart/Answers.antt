-- `matrix_index_check::ask_apart`: the matrix check's refusal, else refusal 10 or none.
use mathlib.Core.Path.{refl, sym}
use Rattle.answers.specs.Paper.Enums.{refusal_number, refusal_place}
use Rattle.answers.proofs.Verdicts.{handed_on}
use Rattle.matrix.specs.Paper.Code.{Matrix}
use Rattle.matrix.specs.Paper.Shapes.{matrix_of}
use Rattle.matrix.proofs.PlainCheck.{accepted-is}
use Rattle.matrix_index_check.proofs.Answers.{matrix-refused, matrix-accepted}
use Rattle.matrix_index_check.proofs.ask_apart.Goals as goal

pub ask_own-requires : goal.ask_own-requires
ask_own-requires c =
    let lent : Matrix = matrix_of c.args.shape c.args.list.now in
    accepted-is (lent) (sym c.in_ok-check.ensures)

pub returns : goal.returns
returns c =
    let lent : Matrix = matrix_of c.args.shape c.args.list.now in
    let t = c in
    let s = t in
    matrix-accepted (lent) s.args.index.now
    (accepted-is (lent) (sym t.in_ok-check.ensures)) _ c.ask_own.ensures

pub returns-in_err-check : goal.returns-in_err-check
returns-in_err-check c =
    let lent : Matrix = matrix_of c.args.shape c.args.list.now in
    let k = c in
    let s = k in
    let e = handed_on _ _ c.from_residual.ensures.1 in
    rw e (matrix-refused (lent) s.args.index.now (refusal_number c.in_err-check.field-0.0) (refusal_place c.in_err-check.field-0.0) _ (sym c.in_err-check.ensures) refl)
