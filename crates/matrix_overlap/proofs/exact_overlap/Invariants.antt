-- `matrix_overlap::exact_overlap` meets its contract. The loop's invariant: no row passed overlaps a later one. Assumes nothing.
use mathlib.Core.Path.{◌≡◌}
use mathlib.Core.Bool.{false}
use Prim.Native.Nat.{ℕ, ◌<◌}
use Rattle.matrix.specs.Paper.Check.{overlapping}
use Rattle.matrix.specs.Paper.Shapes.{matrix_of}
use Rattle.matrix_overlap.proofs.exact_overlap.Given as goal

abbrev pub invariant-loop-i : goal.invariant-loop-i
invariant-loop-i l = (x : ℕ) → x < l.i → overlapping (matrix_of l.shape l.list) x ≡ false
