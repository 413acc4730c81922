-- `firmware_decoding::with_index` meets its contract: the front of the array is the index of the matrix. Assumes nothing.
use mathlib.Core.Path.{sym, ap, ◌∙◌}
use lib.ListN.{length}
use Rattle.matrix.specs.Paper.Code.{Matrix}
use Rattle.matrix.specs.Paper.Shapes.{matrix_of}
use Rattle.matrix_index.proofs.Parts.{index-long}
use Rattle.matrix_index.proofs.Filling.{size_is, size_small, index-front, index-fits}
use Rattle.firmware_decoding.proofs.with_index.Goals as goal

pub build-requires : goal.build-requires
build-requires c =
    let lent : Matrix = matrix_of c.args.shape c.args.list.now in
    let s = c in (s.requires.matrix, size_small (lent) s.requires.matrix)

pub slice_bounds-index-end : goal.slice_bounds-index-end
slice_bounds-index-end c =
    let lent : Matrix = matrix_of c.args.shape c.args.list.now in
    let s = c in
    index-fits (lent) s.requires.matrix _ _ c.build.ensures (size_small (lent) s.requires.matrix)

pub slice_bounds-iterative_accepted-end : goal.slice_bounds-iterative_accepted-end
slice_bounds-iterative_accepted-end c =
    let lent : Matrix = matrix_of c.args.shape c.args.list.now in
    let s = c in
    size_is (lent) ∙ sym (ap length (index-front (lent) s.requires.matrix _ _ c.build.ensures)
    ∙ index-long (lent) s.requires.matrix.rows)

pub iterative_accepted-requires : goal.iterative_accepted-requires
iterative_accepted-requires c =
    let lent : Matrix = matrix_of c.args.shape c.args.list.now in
    let s = c in
    (s.requires, index-front (lent) s.requires.matrix _ _ c.build.ensures)
