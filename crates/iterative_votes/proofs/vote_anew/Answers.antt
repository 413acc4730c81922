-- `iterative_votes::vote_anew`: the checks of the set are those that it has and the empty set has not; added where there are no votes, theirs are the votes.
use native.Mathlib.Omega.{arith}
use lib.ListN.{replicate}
use Rattle.matrix.specs.Paper.Shapes.{matrix_of}
use Rattle.syndrome_words.specs.Sets.{only_in}
use Rattle.iterative_votes.proofs.Kept.{listed-few, only-small, anew-room, anew, wiped}
use Rattle.iterative_votes.proofs.vote_anew.Goals as goal

pub add-requires : goal.add-requires
add-requires c =
    let s = c in
    let a = s.args in
    let H = matrix_of a.shape a.list.now in
    let f = c.list_only-count in
    let rows = f.new.rows in
    let none = wiped a.shape.n a.votes.now c.fill.new.self (omega (arith, s.requires.0.sizes.n_most, s.requires.4.long)) (c.fill.ensures.after (λ y e. e)) in (
      s.requires.0,
      s.requires.1,
      listed-few H s.requires.0 (only_in a.parity.now (replicate 16 0)) (only-small (replicate 16 0) a.parity.now) rows f.result f.ensures,
      anew-room H s.requires.0 a.parity.now rows f.result f.ensures a.votes.now _ s.requires.4 none,
    )

pub returns : goal.returns
returns c =
    let s = c in
    let a = s.args in
    let H = matrix_of a.shape a.list.now in
    let f = c.list_only-count in
    let none = wiped a.shape.n a.votes.now c.fill.new.self (omega (arith, s.requires.0.sizes.n_most, s.requires.4.long)) (c.fill.ensures.after (λ y e. e)) in
    let new = c.add.new.votes in (
      anew H s.requires.0 a.parity.now f.new.rows f.result f.ensures a.votes.now _ s.requires.4 none new c.add.ensures,
      f.ensures.long,
    )
