-- `matrix_weights::off_weights` meets its contract. The loop's invariant: `off` is how many of the first `q` are off. Assumes nothing.
use mathlib.Core.Path.{◌≡◌}
use Rattle.matrix_weights.specs.Weights.{off_weights}
use Rattle.matrix_weights.proofs.off_weights.Given as goal

abbrev pub invariant-loop-q : goal.invariant-loop-q
invariant-loop-q l = l.off ≡ off_weights l.low l.weights l.q
