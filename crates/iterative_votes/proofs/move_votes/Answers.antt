-- `iterative_votes::move_votes`: the checks that only `parity` has add their votes, and those that only `was` has take theirs away.
use Rattle.matrix.specs.Paper.Shapes.{matrix_of}
use Rattle.syndrome_words.specs.Sets.{only_in}
use Rattle.iterative_votes.proofs.Kept.{listed-few, only-small, begun-room, ended-there, moved}
use Rattle.iterative_votes.proofs.move_votes.Goals as goal

pub add-requires : goal.add-requires
add-requires c =
    let s = c in
    let a = s.args in
    let H = matrix_of a.shape a.list.now in
    let f = c.list_only-more in
    let rows = f.new.rows in (
      s.requires.0,
      s.requires.1,
      listed-few H s.requires.0 (only_in a.parity.now a.was.now) (only-small a.was.now a.parity.now) rows f.result f.ensures,
      begun-room H s.requires.0 a.was.now a.parity.now a.votes.now s.requires.4 rows f.result f.ensures,
    )

pub take-requires : goal.take-requires
take-requires c =
    let s = c in
    let a = s.args in
    let H = matrix_of a.shape a.list.now in
    let f = c.list_only-more in
    let g = c.list_only-fewer in
    let added = c.add in
    let rows = f.new.rows in
    let rows' = g.new.rows in
    let mid = added.new.votes in (
      s.requires.0,
      s.requires.1,
      listed-few H s.requires.0 (only_in a.was.now a.parity.now) (only-small a.parity.now a.was.now) rows' g.result g.ensures,
      ended-there H s.requires.0 a.was.now a.parity.now a.votes.now s.requires.4 rows f.result f.ensures mid added.ensures rows' g.result g.ensures,
    )

pub returns : goal.returns
returns c =
    let s = c in
    let a = s.args in
    let H = matrix_of a.shape a.list.now in
    let f = c.list_only-more in
    let g = c.list_only-fewer in
    let added = c.add in
    let rows = f.new.rows in
    let rows' = g.new.rows in
    let mid = added.new.votes in
    let new = c.take.new.votes in (
      moved H s.requires.0 a.was.now a.parity.now a.votes.now s.requires.4 rows f.result f.ensures mid added.ensures rows' g.result g.ensures new c.take.ensures,
      g.ensures.long,
    )
