-- `iterative_changed::put_turned` meets its contract. The invariant: the first j places are written over the old cells. Assumes nothing.
use mathlib.Core.Path.{◌≡◌}
use Rattle.counting.specs.Paper.Lists.{listed, over}
use Rattle.counting.specs.Places.{at}
use Rattle.iterative_changed.specs.Marks.{turned_at}
use Rattle.iterative_changed.proofs.put_turned.Given as goal

abbrev pub invariant-loop-j : goal.invariant-loop-j
invariant-loop-j l = l.places ≡ over (listed l.j (turned_at (at l.marks) (at l.bits))) l.initial.places
