-- `syndrome::row_parity`. The loop's invariant: `x` is the parity of the first bits of the part.
use Prim.Native.Nat.{◌%◌}
use mathlib.Core.Path.{◌≡◌}
use Rattle.counting.specs.Places.{at}
use Rattle.syndrome.specs.Places.{ones_at}
use Rattle.syndrome.proofs.row_parity.Given as goal

abbrev pub invariant-loop-j : goal.invariant-loop-j
invariant-loop-j l = l.x ≡ ones_at l.list l.from l.j-index (at l.bits) % 2
