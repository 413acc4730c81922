-- `iterative_rounds::rounds_on` meets its contract. The invariant, `Going`: the arrays hold the state after k rounds, the votes and the count
-- of failing checks are those of its bits, and a check of every earlier state fails; what is kept is that of its bits too. Assumes nothing.
use mathlib.Core.Path.{◌≡◌}
use lib.ListN.{length}
use Rattle.counting.specs.Places.{at}
use Rattle.matrix.specs.Paper.Shapes.{matrix_of}
use Rattle.iterative_rounds.proofs.Runs.{Going}
use Rattle.iterative_rounds.proofs.rounds_on.Given as goal

abbrev pub invariant-loop-k : goal.invariant-loop-k
invariant-loop-k g l =
    Going (matrix_of l.shape l.list) l.middle l.limit l.initial.bits l.initial.levels l.bits l.levels l.votes l.failing l.k
    × g.T.Tally.keeps l.way (matrix_of l.shape l.list) (at l.bits) l.votes × g.T.Tally.stays (matrix_of l.shape l.list) l.initial.way l.way × (length l.before ≡ 1023)
