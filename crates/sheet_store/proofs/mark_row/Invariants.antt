-- `sheet_store::mark_row` meets its contract. The loop's invariant: the first k ones of the block row are marked, beside those of the block rows
-- before it. Assumes nothing.
use Rattle.matrix.specs.Paper.Shapes.{matrix_of}
use Rattle.sheet_store.specs.Storing.{Marked}
use Rattle.sheet_store.proofs.mark_row.Given as goal

abbrev pub invariant-loop-k : goal.invariant-loop-k
invariant-loop-k l = Marked (matrix_of l.shape l.list) l.z l.r l.k l.map
