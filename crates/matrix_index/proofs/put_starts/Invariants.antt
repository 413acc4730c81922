-- `matrix_index::put_starts`. The loop's invariant: the first `j` starting places are written over the old cells, and `sum` is the next.
use mathlib.Core.Path.{◌≡◌}
use Rattle.counting.specs.Paper.Lists.{listed, over}
use Rattle.matrix_index.specs.Filling.{start_sum}
use Rattle.matrix_index.proofs.put_starts.Given as goal

abbrev pub invariant-loop-j : goal.invariant-loop-j
invariant-loop-j l = (l.sum ≡ start_sum l.fn.weights l.j) × (l.cells ≡ over (listed l.j (start_sum l.fn.weights)) l.initial.cells)
