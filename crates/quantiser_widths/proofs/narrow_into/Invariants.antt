-- `quantiser_widths::narrow_into` meets its contract. The invariant: the first j levels are written over the old ones. Assumes nothing.
use mathlib.Core.Path.{◌≡◌}
use lib.IntN.{pos}
use lib.ListN.{get_or}
use Rattle.counting.specs.Paper.Lists.{listed, over}
use Rattle.quantiser_widths.proofs.narrow_into.Given as goal

abbrev pub invariant-loop-j : goal.invariant-loop-j
invariant-loop-j l = l.old ≡ over (listed l.j (λ i. get_or l.levels i (pos 0))) l.initial.old
