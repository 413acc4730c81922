-- `matrix_check::ask_overlap` meets its contract: each answer is the one that has the matrix's reading. Assumes nothing.
use mathlib.Core.Path.{sym}
use native.Mathlib.Omega.{arith}
use Rattle.counting.proofs.Decisions.{found, missed}
use Rattle.matrix.specs.Paper.Code.{Matrix}
use Rattle.matrix.specs.Paper.PlainCheck.{rows_overlap, fine}
use Rattle.matrix.specs.Paper.Shapes.{matrix_of}
use Rattle.matrix.proofs.PlainCheck.{overlaps, accepts, reads_only}
use Rattle.matrix_check.proofs.ask_overlap.Goals as goal

pub returns-in-Some : goal.returns-in-Some
returns-in-Some c =
    let H : Matrix = matrix_of c.args.shape c.args.list.now in
    let b = c in
    let o = b.requires.0 in
    let i = c.in-Some.ensures in
    reads_only H _
    (rows_overlap o.sized.sizes o.sized.whole o.clear b.requires.1.inside b.requires.1.least (found (overlaps H) _ c.in-Some.i i.0 i.1))

pub returns : goal.returns
returns c =
    let H : Matrix = matrix_of c.args.shape c.args.list.now in
    let b = c in
    let o = b.requires.0 in
    reads_only H _
    (fine (accepts H o.sized.sizes o.sized.whole o.clear b.requires.1.inside b.requires.1.least
    (missed (overlaps H) H.m H.m (sym c.in_default.ensures) (omega arith))))
