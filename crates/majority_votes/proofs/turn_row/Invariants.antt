-- `majority_votes::turn_row`. The loop's invariant: one turn at each column number of the first `e` eights of the part.
use Prim.Native.Nat.{◌*◌}
use Rattle.counting.specs.Places.{among}
use Rattle.majority_votes.proofs.turn_row.Given as goal

abbrev pub invariant-loop-e : goal.invariant-loop-e
invariant-loop-e g l = g.T.Turn.turned (among l.list l.from (8 * l.e)) l.initial.votes l.votes
