-- `matrix_weights::weights_fit` meets its contract. Assumes nothing.
use native.Mathlib.Omega.{arith}
use Rattle.matrix_weights.proofs.Weights.{off-unfit, inside-fit}
use Rattle.matrix_weights.proofs.weights_fit.Goals as goal

pub returns-then-off_weights-ne0 : goal.returns-then-off_weights-ne0
returns-then-off_weights-ne0 c =
    let a = c.args in
    off-unfit a.shape.gamma a.weights.now a.shape.n (λ e. omega (arith, c.off_weights.ensures, e))

pub returns : goal.returns
returns c =
    let a = c.args in
    let f = c.off_weights in
    inside-fit a.shape.gamma a.weights.now a.shape.n (omega (arith, f.ensures)) c.has_least.result c.has_least.ensures
