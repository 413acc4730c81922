-- `sheet_from_list::sheet_from_list` meets its contract: the matrix check's refusal, else what follows on an accepted matrix. Assumes nothing.
use mathlib.Core.Path.{sym}
use Rattle.answers.specs.Paper.Enums.{refusal_number, refusal_place}
use Rattle.answers.proofs.Verdicts.{handed_on}
use Rattle.matrix.specs.Paper.Shapes.{matrix_of}
use Rattle.matrix.proofs.PlainCheck.{accepted-is}
use Rattle.sheet_from_list.proofs.Answers.{refused-matrix}
use Rattle.sheet_from_list.proofs.sheet_from_list.Goals as goal

pub on_accepted-requires : goal.on_accepted-requires
on_accepted-requires c =
    let k = c in
    let a = c.args in
    accepted-is (matrix_of a.shape a.list.now) (sym c.in_ok-check.ensures)

pub returns-in_err-check : goal.returns-in_err-check
returns-in_err-check c =
    let k = c in
    let a = c.args in
    let e = handed_on _ _ c.from_residual.ensures.1 in
    rw e (refused-matrix (matrix_of a.shape a.list.now) a.z a.sheet.now (refusal_number c.in_err-check.field-0.0) (refusal_place c.in_err-check.field-0.0)
    (sym c.in_err-check.ensures))
