-- `packed_distance::last_apart` meets its contract. The loop's invariant: the number found is that of the bytes from `from` to before q. Assumes nothing.
use mathlib.Core.Path.{◌≡◌}
use Prim.Native.Nat.{◌-◌}
use Rattle.packed_distance.specs.Parts.{apart_in}
use Rattle.packed_distance.proofs.last_apart.Given as goal

abbrev pub invariant-loop-q : goal.invariant-loop-q
invariant-loop-q l = l.found ≡ apart_in l.a l.b l.from (l.q - l.from)
