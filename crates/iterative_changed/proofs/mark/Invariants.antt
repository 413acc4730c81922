-- `iterative_changed::mark` meets its contract. The invariant: the first j marks are written over the old cells. Assumes nothing.
use mathlib.Core.Path.{◌≡◌}
use Rattle.counting.specs.Paper.Lists.{listed, over}
use Rattle.counting.specs.Places.{at}
use Rattle.iterative_changed.specs.Marks.{marked_by}
use Rattle.iterative_changed.proofs.mark.Given as goal

abbrev pub invariant-loop-j : goal.invariant-loop-j
invariant-loop-j l = l.marks ≡ over (listed l.j (marked_by l.opened (at l.bits))) l.initial.marks
