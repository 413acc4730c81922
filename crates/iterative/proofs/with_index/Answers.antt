-- `iterative::with_index`: the front of the array is the index of the matrix. Assumes nothing.
use mathlib.Core.Path.{sym, ap, ◌∙◌}
use lib.ListN.{length}
use Rattle.matrix.specs.Paper.Code.{Matrix}
use Rattle.matrix.specs.Paper.Shapes.{matrix_of}
use Rattle.matrix_index.proofs.Parts.{index-long}
use Rattle.matrix_index.proofs.Filling.{size_is, size_small, index-front, index-fits}
use Rattle.iterative.proofs.with_index.Goals as goal

pub build-requires : goal.build-requires
build-requires c =
    let lent : Matrix = matrix_of c.args.shape c.args.list.now in
    let s = c in (s.requires, size_small (lent) s.requires)

pub slice_bounds-index-end : goal.slice_bounds-index-end
slice_bounds-index-end c =
    let lent : Matrix = matrix_of c.args.shape c.args.list.now in
    let s = c in
    index-fits (lent) s.requires _ _ c.build.ensures (size_small (lent) s.requires)

pub slice_bounds-iterative_own-end : goal.slice_bounds-iterative_own-end
slice_bounds-iterative_own-end c =
    let lent : Matrix = matrix_of c.args.shape c.args.list.now in
    let s = c in
    size_is (lent) ∙ sym (ap length (index-front (lent) s.requires _ _ c.build.ensures) ∙ index-long (lent) s.requires.rows)

pub iterative_own-requires : goal.iterative_own-requires
iterative_own-requires c =
    let lent : Matrix = matrix_of c.args.shape c.args.list.now in
    let s = c in
    (s.requires, index-front (lent) s.requires _ _ c.build.ensures)
