-- `sheet_to_list::on_list`: the matrix check's refusal, else what follows on an accepted matrix.
use mathlib.Core.Path.{refl, sym}
use Rattle.answers.specs.Paper.Enums.{refusal_number, refusal_place}
use Rattle.answers.proofs.Verdicts.{handed_on}
use Rattle.matrix.specs.Paper.Code.{Matrix}
use Rattle.matrix.specs.Paper.Shapes.{matrix_of}
use Rattle.matrix.proofs.PlainCheck.{accepted-is}
use Rattle.sheet_to_list.proofs.Answers.{refused-matrix}
use Rattle.sheet_to_list.proofs.on_list.Goals as goal

pub on_accepted-requires : goal.on_accepted-requires
on_accepted-requires c =
    let lent : Matrix = matrix_of c.args.shape c.args.made.now in
    accepted-is (lent) (sym c.in_ok-check.ensures)

pub returns-in_err-check : goal.returns-in_err-check
returns-in_err-check c =
    let lent : Matrix = matrix_of c.args.shape c.args.made.now in
    let s = c in
    let e = handed_on _ _ c.from_residual.ensures.1 in
    rw e (refused-matrix (lent) s.args.sizes.now s.args.list.now (refusal_number c.in_err-check.field-0.0) (refusal_place c.in_err-check.field-0.0) _
    (sym c.in_err-check.ensures) refl)
