-- `matrix_overlap::row_overlaps` meets its contract. The loop's invariant: row i shares at most one column with each later row passed. Assumes nothing.
use Prim.Native.Nat.{ℕ, ◌≤◌, ◌<◌}
use Rattle.matrix.specs.Paper.Code.{common}
use Rattle.matrix.specs.Paper.Shapes.{matrix_of}
use Rattle.matrix_overlap.proofs.row_overlaps.Given as goal

abbrev pub invariant-loop-later : goal.invariant-loop-later
invariant-loop-later l =
    (x : ℕ) → l.i < x → x < l.later → common (matrix_of l.shape l.list) l.i x ≤ 1
