use native.Mathlib.Omega.{arith}
use Rattle.matrix_degrees.proofs.Degrees.{counted_next}
use Rattle.matrix_degrees.proofs.count_all.Goals as goal

pub loop-column-preserved : goal.loop-column-preserved
loop-column-preserved c =
    let l = c.loop-column in
    counted_next c.args.list.now l.column-index c.args.cells.now l.cells l.invariant (omega (arith, (c.requires.2 l.column-index (omega arith)).0))
