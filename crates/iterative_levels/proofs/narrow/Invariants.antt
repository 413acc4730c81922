-- `iterative_levels::narrow` meets its contract. The invariant: the first j weights are written over the old cells. Assumes nothing.
use mathlib.Core.Path.{◌≡◌}
use Rattle.counting.specs.Paper.Lists.{listed, over}
use Rattle.counting.specs.Places.{at}
use Rattle.iterative_levels.proofs.narrow.Given as goal

abbrev pub invariant-loop-j : goal.invariant-loop-j
invariant-loop-j l = l.kept ≡ over (listed l.j (at l.weights)) l.initial.kept
