-- `matrix_weights::has_least` meets its contract. The loop's invariant: no column passed weighs gamma. Assumes nothing.
use mathlib.Core.Path.{◌≡◌}
use mathlib.Core.Bool.{false}
use Prim.Native.Nat.{ℕ, ◌<◌}
use Rattle.matrix_weights.specs.Weights.{least_weight}
use Rattle.matrix_weights.proofs.has_least.Given as goal

abbrev pub invariant-loop-c : goal.invariant-loop-c
invariant-loop-c l = (x : ℕ) → x < l.c → least_weight l.least l.weights x ≡ false
