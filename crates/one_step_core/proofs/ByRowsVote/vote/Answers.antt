-- `vote` of `one_step_core::ByRows` meets its contract: the tally, and where a check fails the flips and the count, are the definition's. Assumes nothing.
use Rattle.matrix.specs.Paper.Code.{Matrix}
use Rattle.matrix.specs.Paper.Shapes.{matrix_of}
use Rattle.one_step_core.proofs.Votes.{stepped-clean, stepped-voted, voted-bits}
use Rattle.one_step_core.proofs.ByRowsVote.vote.Goals as goal

pub returns-then-before-eq0 : goal.returns-then-before-eq0
returns-then-before-eq0 c =
    let s = c in
    let H : Matrix = matrix_of s.args.shape s.args.list.now in
    let t = c.tally-before in
    stepped-clean H s.requires.0 s.args.bits.now t.result t.ensures.count c.if-before-eq0.true

pub failing_count-after-requires : goal.failing_count-after-requires
failing_count-after-requires c =
    let s = c in
    let H : Matrix = matrix_of s.args.shape s.args.list.now in
    let t = c.tally-before in
    let f = c.flip_own in
    (s.requires.0, voted-bits H s.requires.0 s.args.bits.now t.new.votes t.result t.ensures f.new.bits f.ensures s.requires.2)

pub returns : goal.returns
returns c =
    let s = c in
    let H : Matrix = matrix_of s.args.shape s.args.list.now in
    let t = c.tally-before in
    let f = c.flip_own in
    stepped-voted H s.requires.0 s.args.bits.now t.new.votes t.result t.ensures f.new.bits c.failing_count-after.result
    c.if-before-eq0.false
    f.ensures c.failing_count-after.ensures
