-- `matrix_weights::first_off_weight` meets its contract. The loop's invariant: every column passed has a weight from gamma to 32. Assumes nothing.
use mathlib.Core.Path.{◌≡◌}
use mathlib.Core.Bool.{false}
use Prim.Native.Nat.{ℕ, ◌<◌}
use Rattle.matrix_weights.specs.Weights.{out_weight}
use Rattle.matrix_weights.proofs.first_off_weight.Given as goal

abbrev pub invariant-loop-j : goal.invariant-loop-j
invariant-loop-j l = (x : ℕ) → x < l.j → out_weight l.gamma l.weights x ≡ false
