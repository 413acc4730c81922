use mathlib.Core.Path.{refl}
use native.Mathlib.Omega.{arith}
use Rattle.matrix.specs.Paper.Code.{entry}
use Rattle.matrix.specs.Paper.Shapes.{matrix_of}
use Rattle.matrix.proofs.Tallies.{tally-none, tally-more, tally-le}
use Rattle.matrix_overlap.proofs.marks_of.Goals as goal

pub loop-k-init : goal.loop-k-init
loop-k-init c = tally-none _

pub overflow_add-marks : goal.overflow_add-marks
overflow_add-marks c =
    let b = c in
    let H = matrix_of b.args.shape b.args.list.now in
    let l = c.loop-k in
    let a = c.column-c in
    omega (arith, tally-le (entry H b.args.i) l.k l.marks l.invariant a.result a.ensures.below, b.requires.0.sized.sizes.rho_most)

pub loop-k-preserved : goal.loop-k-preserved
loop-k-preserved c =
    let b = c in
    let H = matrix_of b.args.shape b.args.list.now in
    let l = c.loop-k in
    let a = c.column-c in
    tally-more (entry H b.args.i) l.k a.result l.marks _ l.invariant a.ensures.is a.ensures.below refl
