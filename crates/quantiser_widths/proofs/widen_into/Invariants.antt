-- `quantiser_widths::widen_into` meets its contract. The invariant: the first j old levels are written over the levels. Assumes nothing.
use mathlib.Core.Path.{◌≡◌}
use lib.IntN.{pos}
use lib.ListN.{get_or}
use Rattle.counting.specs.Paper.Lists.{listed, over}
use Rattle.quantiser_widths.proofs.widen_into.Given as goal

abbrev pub invariant-loop-j : goal.invariant-loop-j
invariant-loop-j l = l.levels ≡ over (listed l.j (λ i. get_or l.old i (pos 0))) l.initial.levels
