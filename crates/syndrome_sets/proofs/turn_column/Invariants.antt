-- `syndrome_sets::turn_column`. The loop's invariant: the first `w` words are turned over.
use mathlib.Core.Path.{◌≡◌}
use Prim.Native.Nat.{◌+◌}
use lib.Bits.{bit_xor}
use Rattle.counting.specs.Paper.Lists.{listed, over}
use Rattle.counting.specs.Places.{at}
use Rattle.syndrome_sets.proofs.turn_column.Given as goal

abbrev pub invariant-loop-w : goal.invariant-loop-w
invariant-loop-w g l =
    l.parity ≡ over (listed l.w (λ v. bit_xor (at l.initial.parity v) (at l.columns (l.from + v)))) l.initial.parity
