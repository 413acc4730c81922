-- `packed_word::pack_into` meets its contract. The loop's invariant: w is as it was, but for its first q bytes,
-- which are those of the packed word. Assumes nothing.
use mathlib.Core.Path.{◌≡◌}
use Rattle.counting.specs.Paper.Lists.{listed, over}
use Rattle.counting.specs.Places.{at}
use Rattle.packed_word.specs.Paper.Packed.{packed_byte}
use Rattle.packed_word.proofs.pack_into.Given as goal

abbrev pub invariant-loop-q : goal.invariant-loop-q
invariant-loop-q l = l.w ≡ over (listed l.q (packed_byte l.n (at l.bits))) l.initial.w
