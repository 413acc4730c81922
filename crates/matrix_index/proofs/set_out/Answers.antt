-- `matrix_index::set_out`: the weights give the starting places, which take the weights' cells as cursors.
use Rattle.matrix.specs.Paper.Code.{Matrix}
use Rattle.matrix.specs.Paper.Shapes.{matrix_of}
use Rattle.matrix_degrees.proofs.Degrees.{weighed}
use Rattle.matrix_index.proofs.Starts.{sum-small, starts-put, starts-copied}
use Rattle.matrix_index.proofs.set_out.Goals as goal

pub put_starts-requires : goal.put_starts-requires
put_starts-requires c =
    let lent : Matrix = matrix_of c.args.shape c.args.list.now in
    let s = c in
    (s.requires.0.sizes.n_most, s.requires.1, sum-small (lent) _ (weighed (lent) _ s.args.cursors.now c.weigh.ensures) s.requires.0)

pub returns : goal.returns
returns c =
    let lent : Matrix = matrix_of c.args.shape c.args.list.now in
    let s = c in
    let w = c.weigh in
    let heavy = weighed (lent) _ s.args.cursors.now w.ensures in
    let e = c.put_starts.ensures in (
      starts-copied (lent) _ heavy s.args.index.now _ e s.args.cursors.now _ _ w.ensures c.copy_front.ensures,
      starts-put (lent) _ heavy s.args.index.now _ e,
    )
