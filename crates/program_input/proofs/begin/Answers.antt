-- `program_input::begin` meets its contract: the matrix is asked first, then the setting. Assumes nothing.
use mathlib.Core.Path.{sym, ◌∙◌}
use Rattle.answers.proofs.Verdicts.{handed_on}
use Rattle.matrix.specs.Paper.Shapes.{matrix_of}
use Rattle.program_input.specs.Paper.Input.{setting_in}
use Rattle.program_input.proofs.Openings.{matrix-passes, matrix-refuses}
use Rattle.program_input.proofs.begin.Goals as goal

pub returns : goal.returns
returns c =
    let s = c in
    c.setting.ensures
    ∙ matrix-passes (matrix_of s.args.shape s.args.list.now) (setting_in s.args.bytes.now) (sym c.in_ok-check.ensures)

pub returns-in_err-check : goal.returns-in_err-check
returns-in_err-check c =
    let s = c in
    let e = handed_on _ _ c.from_residual.ensures.1 in
    rw e (matrix-refuses (matrix_of s.args.shape s.args.list.now) (setting_in s.args.bytes.now) (sym c.in_err-check.ensures))
