use mathlib.Core.Path.{ap, ◌∙◌}
use native.Mathlib.Omega.{arith}
use Rattle.counting.specs.Paper.Sum.{flag}
use Rattle.counting.proofs.Sums.{byte_flag}
use Rattle.matrix_weights.specs.Weights.{out_weight}
use Rattle.matrix_weights.proofs.Weights.{flag-le, offs-none, offs-more, offs-most}
use Rattle.matrix_weights.proofs.off_weights.Goals as goal

pub loop-q-init : goal.loop-q-init
loop-q-init c = offs-none _ _

pub overflow_add-off : goal.overflow_add-off
overflow_add-off c =
    let a = c.args in
    let l = c.loop-q in
    omega (arith, l.invariant, offs-most a.shape.gamma a.weights.now l.q, byte_flag c.outside.result, flag-le c.outside.result)

pub loop-q-preserved : goal.loop-q-preserved
unfolding out_weight
loop-q-preserved c =
    let a = c.args in
    let l = c.loop-q in
    offs-more a.shape.gamma a.weights.now l.q l.off _ l.invariant (byte_flag c.outside.result ∙ ap flag c.outside.ensures)
