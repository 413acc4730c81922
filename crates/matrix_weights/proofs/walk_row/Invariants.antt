-- `matrix_weights::walk_row` meets its contract. The loop's invariant: no entry of the row that is passed is bad, the weights count those passed, and
-- `before` is the last of them. Assumes nothing.
use mathlib.Core.Path.{◌≡◌}
use mathlib.Core.Bool.{false}
use Prim.Native.Nat.{ℕ, ◌+◌, ◌-◌, ◌<◌}
use Rattle.matrix.specs.Tallies.{Tally}
use Rattle.matrix_weights.specs.Weights.{entry_at, bad_in_row}
use Rattle.matrix_weights.proofs.walk_row.Given as goal

abbrev pub invariant-loop-k : goal.invariant-loop-k
invariant-loop-k l = record {
  last : l.before ≡ entry_at l.list (l.start + l.k - 1);
  tallied : Tally (entry_at l.list) (l.start + l.k) l.weights;
  good : (x : ℕ) → x < l.k → bad_in_row l.n l.list l.start x ≡ false;
}
