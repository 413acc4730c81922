-- `majority_votes::turn_some`. The loop's invariant: one turn at each of the first `k` column numbers of the part.
use Rattle.counting.specs.Places.{among}
use Rattle.majority_votes.proofs.turn_some.Given as goal

abbrev pub invariant-loop-k : goal.invariant-loop-k
invariant-loop-k g l = g.T.Turn.turned (among l.list l.from l.k) l.initial.votes l.votes
