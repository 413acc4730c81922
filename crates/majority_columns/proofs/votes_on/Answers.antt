-- `majority_columns::votes_on`: the rows of the column stand between its starting place and the next.
use Rattle.counting.specs.Places.{at}
use Rattle.majority_columns.proofs.Columns.{votes-is, few-at}
use Rattle.majority_columns.proofs.votes_on.Goals as goal

pub odd_among-requires : goal.odd_among-requires
odd_among-requires c =
    let s = c in
    (s.requires.0.part s.args.j s.requires.2, few-at s.args.index.now s.args.n s.args.j s.requires.1 s.requires.2, s.requires.3)

pub returns : goal.returns
returns c =
    let a = c.args in
    votes-is a.index.now a.n a.j c.odd_among.result (at a.parity.now) c.odd_among.ensures
