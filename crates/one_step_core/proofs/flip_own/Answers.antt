-- `one_step_core::flip_own`: by gamma where the sizes leave no room for unlike columns, else by the weights found.
use lib.ListN.{replicate}
use Rattle.matrix.specs.Paper.Code.{Matrix, Word}
use Rattle.matrix.specs.Paper.Shapes.{matrix_of}
use Rattle.matrix_degrees.proofs.Degrees.{weighed}
use Rattle.one_step_core.proofs.Votes.{equal-voted, weighed-voted}
use Rattle.one_step_core.proofs.flip_own.Goals as goal

pub flip_equal-requires : goal.flip_equal-requires
unfolding Word
flip_equal-requires g c = let s = c in (s.requires.0.sizes.n_most, s.requires.2)

pub returns-then-list-n : goal.returns-then-list-n
returns-then-list-n g c =
    let s = c in
    let H : Matrix = matrix_of s.args.shape s.args.list.now in
    equal-voted H s.requires.0 c.if-list-n.true s.args.votes.now s.args.bits.now c.flip_equal.new.bits
    c.flip_equal.ensures

pub flip_all-requires : goal.flip_all-requires
unfolding Word
flip_all-requires g c =
    let s = c in
    (s.requires.0.sizes.n_most, s.requires.2)

pub returns : goal.returns
returns g c =
    let s = c in
    let H : Matrix = matrix_of s.args.shape s.args.list.now in
    let w = c.weigh in
    weighed-voted H w.new.weights (weighed H w.new.weights (replicate 1023 0) w.ensures) s.args.votes.now s.args.bits.now
    c.flip_all.new.bits c.flip_all.ensures
