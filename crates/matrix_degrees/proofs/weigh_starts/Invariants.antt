-- `matrix_degrees::weigh_starts`. The loop's invariant: the first `j` gaps are written over the old ones.
use mathlib.Core.Path.{◌≡◌}
use Rattle.counting.specs.Paper.Lists.{listed, over}
use Rattle.matrix_degrees.specs.Degrees.{gap}
use Rattle.matrix_degrees.proofs.weigh_starts.Given as goal

abbrev pub invariant-loop-j : goal.invariant-loop-j
invariant-loop-j l = l.weights ≡ over (listed l.j (gap l.index)) l.initial.weights
