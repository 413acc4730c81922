-- `iterative_levels::update` meets its contract. The invariant: the first j bits and levels are those of the next round, the others as they were.
-- Assumes nothing.
use Rattle.counting.specs.Places.{at}
use Rattle.iterative_levels.specs.Levels.{Moved}
use Rattle.iterative_levels.proofs.update.Given as goal

abbrev pub invariant-loop-j : goal.invariant-loop-j
invariant-loop-j l = Moved l.votes (at l.weights) l.j l.middle l.ceiling l.initial.bits l.initial.levels l.bits l.levels
