-- `iterative_levels::unbias` meets its contract. The invariant: the first j levels are written over the old ones. Assumes nothing.
use mathlib.Core.Path.{◌≡◌}
use Rattle.counting.specs.Paper.Lists.{listed, over}
use Rattle.iterative_levels.specs.Levels.{unbiased}
use Rattle.iterative_levels.proofs.unbias.Given as goal

abbrev pub invariant-loop-j : goal.invariant-loop-j
invariant-loop-j l = l.levels ≡ over (listed l.j (unbiased l.middle l.kept)) l.initial.levels
