-- `matrix_index_check::check_indexed`: where matrix and index agree refusal 5 alone is left, else each is asked by itself.
use Rattle.matrix.specs.Paper.Code.{Matrix}
use Rattle.matrix.specs.Paper.Shapes.{matrix_of}
use Rattle.matrix_index_check.proofs.Answers.{agreed}
use Rattle.matrix_index_check.proofs.check_indexed.Goals as goal

pub ask_overlap-requires : goal.ask_overlap-requires
ask_overlap-requires c =
    let y = c.agree.ensures.so c.if-agree.true in
    (y.0, y.2)

pub returns-then-agree : goal.returns-then-agree
returns-then-agree c =
    let lent : Matrix = matrix_of c.args.shape c.args.list.now in
    let s = c in
    agreed (lent) s.args.index.now (c.agree.ensures.so c.if-agree.true).1 _ c.ask_overlap.ensures
