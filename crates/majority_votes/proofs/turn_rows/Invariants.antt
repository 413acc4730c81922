-- `majority_votes::turn_rows`. The loop's invariant: one turn at each column of the first `i-index` listed rows.
use Rattle.majority_votes.specs.Tallies.{of_rows}
use Rattle.majority_votes.proofs.turn_rows.Given as goal

abbrev pub invariant-loop-i : goal.invariant-loop-i
invariant-loop-i g l = g.T.Turn.turned (of_rows l.list l.rho l.rows l.i-index) l.initial.votes l.votes
