-- `majority_sets::turn_bytes`. The loop's invariant: the votes are turned by the first `j` bytes.
use Rattle.majority_sets.specs.Sets.{first_bytes}
use Rattle.majority_sets.proofs.turn_bytes.Given as goal

abbrev pub invariant-loop-j : goal.invariant-loop-j
invariant-loop-j g l = g.T.Turn.turned (first_bytes l.j l.bytes) l.initial.votes l.votes
