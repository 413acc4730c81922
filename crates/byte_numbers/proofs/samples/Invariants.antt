-- `byte_numbers::samples` meets its contract. The invariant: the first i samples are finite, and written over the array. Assumes nothing.
use mathlib.Core.Path.{◌≡◌}
use mathlib.Core.Bool.{false}
use Rattle.counting.specs.Paper.Lists.{listed, over}
use Rattle.counting.specs.Paper.Search.{any_below}
use Rattle.byte_numbers.specs.Paper.Numbers.{sample_in, not_finite_in}
use Rattle.byte_numbers.proofs.samples.Given as goal

abbrev pub invariant-loop-i : goal.invariant-loop-i
invariant-loop-i l = (any_below (not_finite_in l.bytes) l.i ≡ false) × (l.xs ≡ over (listed l.i (sample_in l.bytes)) l.initial.xs)
