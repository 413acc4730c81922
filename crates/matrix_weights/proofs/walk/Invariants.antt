-- `matrix_weights::walk` meets its contract. The loop's invariant: no entry of the rows passed is bad, and the weights count those.
-- Assumes nothing.
use mathlib.Core.Path.{◌≡◌}
use mathlib.Core.Bool.{false}
use Prim.Native.Nat.{ℕ, ◌*◌, ◌<◌}
use Rattle.matrix.specs.Paper.Check.{bad_entry}
use Rattle.matrix.specs.Paper.Shapes.{matrix_of}
use Rattle.matrix.specs.Tallies.{Tally}
use Rattle.matrix_weights.specs.Weights.{list_at}
use Rattle.matrix_weights.proofs.walk.Given as goal

abbrev pub invariant-loop-i : goal.invariant-loop-i
invariant-loop-i l = record {
  tallied : Tally (list_at (matrix_of l.shape l.list)) (l.i * l.rho) l.weights;
  good : (x : ℕ) → x < l.i * l.rho → bad_entry (matrix_of l.shape l.list) x ≡ false;
}
