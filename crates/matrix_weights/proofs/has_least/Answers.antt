use mathlib.Core.Path.{sym}
use native.Mathlib.Omega.{arith}
use borrow.Author.Tests.{eq-eqb}
use Rattle.counting.proofs.Loops.{any_here}
use Rattle.matrix_weights.specs.Weights.{least_weight}
use Rattle.matrix_weights.proofs.has_least.Goals as goal

pub returns-then-weights-c : goal.returns-then-weights-c
unfolding least_weight
returns-then-weights-c c =
    let a = c.args in
    sym (any_here (least_weight a.shape.gamma a.weights.now) a.shape.n c.loop-c.c (eq-eqb _ _ c.if-weights-c.true) (omega arith))
