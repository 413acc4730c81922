-- `syndrome::failing_count`. The loop's invariant: `count` is the number of rows below `i` whose checks fail.
use mathlib.Core.Path.{◌≡◌}
use Rattle.counting.specs.Paper.Sum.{sum_below}
use Rattle.counting.specs.Places.{at}
use Rattle.syndrome.specs.Places.{row_fails}
use Rattle.syndrome.proofs.failing_count.Given as goal

abbrev pub invariant-loop-i : goal.invariant-loop-i
invariant-loop-i l = l.count ≡ sum_below l.i (row_fails l.list l.rho (at l.bits))
