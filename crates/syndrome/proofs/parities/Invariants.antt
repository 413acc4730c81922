-- `syndrome::parities`. The loop's invariant: the parities of the first `i` rows are written over the old ones.
use mathlib.Core.Path.{◌≡◌}
use Rattle.counting.specs.Paper.Lists.{listed, over}
use Rattle.counting.specs.Places.{at}
use Rattle.syndrome.specs.Places.{row_fails}
use Rattle.syndrome.proofs.parities.Given as goal

abbrev pub invariant-loop-i : goal.invariant-loop-i
invariant-loop-i l = l.parity ≡ over (listed l.i (row_fails l.list l.rho (at l.bits))) l.initial.parity
