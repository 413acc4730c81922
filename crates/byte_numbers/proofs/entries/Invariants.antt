-- `byte_numbers::entries` meets its contract. The invariant: the first i entries are written over the array. Assumes nothing.
use mathlib.Core.Path.{◌≡◌}
use Rattle.counting.specs.Paper.Lists.{listed, over}
use Rattle.byte_numbers.specs.Paper.Numbers.{entry_in}
use Rattle.byte_numbers.proofs.entries.Given as goal

abbrev pub invariant-loop-i : goal.invariant-loop-i
invariant-loop-i l = l.list ≡ over (listed l.i (entry_in l.bytes)) l.initial.list
