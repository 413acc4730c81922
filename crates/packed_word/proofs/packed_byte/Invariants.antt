-- `packed_word::packed_byte` meets its contract. The loop's invariant: b is the number with the byte's first i bits, the highest first. Assumes nothing.
use mathlib.Core.Path.{◌≡◌}
use Rattle.counting.specs.Places.{at}
use Rattle.packed_word.proofs.Stores.{eight, binary_of}
use Rattle.packed_word.proofs.packed_byte.Given as goal

abbrev pub invariant-loop-i : goal.invariant-loop-i
invariant-loop-i l = l.b ≡ binary_of (eight l.n (at l.bits) l.q) l.i
