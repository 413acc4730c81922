use mathlib.Core.Path.{sym, ◌∙◌}
use native.Mathlib.Omega.{arith}
use Rattle.counting.proofs.Loops.{first_found}
use Rattle.matrix_weights.specs.Weights.{out_weight}
use Rattle.matrix_weights.proofs.first_off_weight.Goals as goal

pub returns-then-outside : goal.returns-then-outside
unfolding out_weight
returns-then-outside c =
    let a = c.args in
    let l = c.loop-j in
    (sym (first_found (out_weight a.shape.gamma a.weights.now) a.shape.n l.j l.invariant (sym c.outside.ensures ∙ c.if-outside.true) (omega arith)), omega arith)
