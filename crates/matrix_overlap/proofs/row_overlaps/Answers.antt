use mathlib.Core.Path.{sym}
use native.Mathlib.Omega.{arith}
use Rattle.counting.proofs.Decisions.{test-holds, test-fails}
use Rattle.matrix.specs.Paper.Shapes.{matrix_of}
use Rattle.matrix.proofs.PlainCheck.{overlaps}
use Rattle.matrix_overlap.proofs.row_overlaps.Goals as goal

pub returns-then-common_with-ge2 : goal.returns-then-common_with-ge2
returns-then-common_with-ge2 c =
    let b = c in
    let l = c.loop-later in
    sym (test-holds (overlaps (matrix_of b.args.shape b.args.list.now)) b.args.i
    (l.later, omega arith, omega arith, omega (arith, c.common_with.ensures, c.if-common_with-ge2.true)))

pub returns : goal.returns
returns c =
    let b = c in
    sym (test-fails (overlaps (matrix_of b.args.shape b.args.list.now)) b.args.i
    (λ o. omega (arith, c.loop-later.invariant o.0 o.1 (omega (arith, o.2)), o.3)))
