-- `matrix_index_check::on_accepted`: refusal 10 keeps the buffer, else the index is built in it.
use native.Mathlib.Omega.{arith}
use Rattle.matrix.specs.Paper.Code.{Matrix}
use Rattle.matrix.specs.Paper.Shapes.{matrix_of}
use Rattle.matrix_index.proofs.Filling.{size_is}
use Rattle.matrix_index_check.proofs.Answers.{refused-short, built}
use Rattle.matrix_index_check.proofs.on_accepted.Goals as goal

pub returns-then-index-size : goal.returns-then-index-size
returns-then-index-size c =
    let lent : Matrix = matrix_of c.args.shape c.args.list.now in
    let s = c in
    refused-short (lent) s.args.index.now s.requires (omega (arith, size_is (lent)))

pub build-requires : goal.build-requires
build-requires c =
    let lent : Matrix = matrix_of c.args.shape c.args.list.now in
    let s = c in
    (s.requires, omega (arith, size_is (lent)))

pub returns : goal.returns
returns c =
    let lent : Matrix = matrix_of c.args.shape c.args.list.now in
    let s = c in
    built (lent) s.args.index.now s.requires c.build.new.index (omega (arith, size_is (lent)))
    c.build.ensures
