-- `majority_votes::tally`: the failing rows, added to a cleared array, are the votes.
use Rattle.counting.specs.Places.{at}
use Rattle.matrix.specs.Paper.Shapes.{matrix_of}
use Rattle.majority_votes.proofs.Sums.{failing-parts, failing-room, tallied}
use Rattle.majority_votes.proofs.tally.Goals as goal

pub add_rows-requires : goal.add_rows-requires
add_rows-requires c =
    let s = c in
    let H = matrix_of s.args.shape s.args.list.now in
    let z = at s.args.bits.now in
    let f = c.failing_rows-count in (
      failing-parts H s.requires.0 z f.new.rows f.result f.ensures.places,
      failing-room H s.requires.0 z f.new.rows f.result f.ensures.places,
    )

pub returns : goal.returns
returns c =
    let s = c in
    let H = matrix_of s.args.shape s.args.list.now in
    let z = at s.args.bits.now in
    let f = c.failing_rows-count in
    tallied H s.requires.0 z f.new.rows f.result f.ensures.places c.add_rows.new.votes c.add_rows.ensures
