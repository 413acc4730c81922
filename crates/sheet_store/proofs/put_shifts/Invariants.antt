-- `sheet_store::put_shifts` meets its contract. The loop's invariant: the shifts of the block rows before row r are written. Assumes nothing.
use mathlib.Core.Path.{◌≡◌}
use lib.Seq.{sets}
use Rattle.counting.specs.Paper.Joined.{joined}
use Rattle.matrix.specs.Paper.Shapes.{matrix_of}
use Rattle.sheet_store.specs.Storing.{row_shifts}
use Rattle.sheet_store.proofs.put_shifts.Given as goal

abbrev pub invariant-loop-r : goal.invariant-loop-r
invariant-loop-r l = l.sheet ≡ sets l.initial.sheet l.from (joined l.r (row_shifts (matrix_of l.shape l.list) l.z))
