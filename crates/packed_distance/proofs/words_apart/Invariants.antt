-- `packed_distance::words_apart` meets its contract. The loop's invariant: the number found is that of the first i words. Assumes nothing.
use mathlib.Core.Path.{◌≡◌}
use Prim.Native.Nat.{◌*◌}
use Rattle.packed_distance.specs.Parts.{apart_in}
use Rattle.packed_distance.proofs.words_apart.Given as goal

abbrev pub invariant-loop-i : goal.invariant-loop-i
invariant-loop-i l = l.found ≡ apart_in l.a l.b 0 (8 * l.i)
