-- `packed_word::unpack` meets its contract. The loop's invariant: the first j cells are the word's first j bits,
-- and the others are as they were. Assumes nothing.
use Rattle.packed_word.specs.Steps.{Unpacked}
use Rattle.packed_word.proofs.unpack.Given as goal

abbrev pub invariant-loop-j : goal.invariant-loop-j
invariant-loop-j l = Unpacked l.j l.w l.initial.bits l.bits
