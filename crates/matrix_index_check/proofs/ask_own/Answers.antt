-- `matrix_index_check::ask_own`: refusal 10 where the replay fails.
use Rattle.matrix.specs.Paper.Shapes.{matrix_of}
use Rattle.matrix.proofs.Ordered.{accepted-ordered}
use Rattle.matrix_index_check.proofs.Answers.{own-test, own-verdict}
use Rattle.matrix_index_check.proofs.ask_own.Goals as goal

pub replay-own-requires : goal.replay-own-requires
replay-own-requires c = let s = c in accepted-ordered (matrix_of s.args.shape s.args.list.now) s.requires

pub returns : goal.returns
returns c =
    let s = c in
    let H = matrix_of s.args.shape s.args.list.now in
    own-verdict H s.args.index.now _ c.replay-own.result c.refused_when.ensures
    (own-test H s.requires s.args.index.now c.replay-own.result c.replay-own.ensures)
