-- `failing_checks::failing`: the matrix check's refusal, else the count on the accepted matrix.
use mathlib.Core.Path.{sym}
use Rattle.answers.specs.Paper.Enums.{refusal_number, refusal_place}
use Rattle.answers.proofs.Verdicts.{handed_on}
use Rattle.matrix.specs.Paper.Shapes.{matrix_of}
use Rattle.matrix.proofs.PlainCheck.{accepted-is}
use Rattle.failing_checks.proofs.Verdicts.{failing-matrix}
use Rattle.failing_checks.proofs.failing.Goals as goal

pub failing_accepted-requires : goal.failing_accepted-requires
failing_accepted-requires c =
    let a = c.args in
    accepted-is (matrix_of a.shape a.list.now) (sym c.in_ok-check.ensures)

pub returns-in_err-check : goal.returns-in_err-check
returns-in_err-check c =
    let a = c.args in
    let e = handed_on _ _ c.from_residual.ensures.1 in
    rw e (failing-matrix (matrix_of a.shape a.list.now) a.received.now (refusal_number c.in_err-check.field-0.0) (refusal_place c.in_err-check.field-0.0)
    (c.in_err-check.ensures))
