-- `iterative_levels::bias` meets its contract. The invariant: the first j cells keep the first j levels, the others stay. Assumes nothing.
use Rattle.iterative_levels.specs.Levels.{Biased}
use Rattle.iterative_levels.proofs.bias.Given as goal

abbrev pub invariant-loop-j : goal.invariant-loop-j
invariant-loop-j l = Biased l.j l.middle l.levels l.initial.kept l.kept
