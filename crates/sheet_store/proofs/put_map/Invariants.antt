-- `sheet_store::put_map` meets its contract. The loop's invariant: the ones of the block rows before row r are marked. Assumes nothing.
use Rattle.packed_word.specs.Paper.Packed.{Bytes}
use Rattle.matrix.specs.Paper.Shapes.{matrix_of}
use Rattle.sheet_store.specs.Storing.{Marked}
use Rattle.sheet_store.proofs.put_map.Given as goal

abbrev pub invariant-loop-r : goal.invariant-loop-r
invariant-loop-r l = Bytes l.map × Marked (matrix_of l.shape l.list) l.z l.r 0 l.map
