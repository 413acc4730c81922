-- `majority_flips::flip_front`. The loop's invariant: the first `j` bits are voted on, the others are as they were.
use Rattle.majority_flips.specs.Flips.{VotedBits}
use Rattle.majority_flips.proofs.flip_front.Given as goal

abbrev pub invariant-loop-j : goal.invariant-loop-j
invariant-loop-j g l = VotedBits l.j (g.W.Weights.weight l.weights) l.votes l.initial.bits l.bits
