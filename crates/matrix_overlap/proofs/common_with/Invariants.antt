-- `matrix_overlap::common_with` meets its contract. The loop's invariant: `shared` is the sum of the marks passed, at most 32 each. Assumes nothing.
use mathlib.Core.Path.{◌≡◌}
use Prim.Native.Nat.{◌*◌, ◌≤◌}
use Rattle.counting.specs.Paper.Sum.{sum_below}
use Rattle.matrix.specs.Paper.Shapes.{matrix_of}
use Rattle.matrix.specs.Tallies.{mark_at}
use Rattle.matrix_overlap.proofs.common_with.Given as goal

abbrev pub invariant-loop-k : goal.invariant-loop-k
invariant-loop-k l = record {
  sum : l.shared ≡ sum_below l.k (mark_at (matrix_of l.shape l.list) l.later l.marks);
  small : l.shared ≤ l.k * 32;
}
