-- `quantiser_table::build` meets its contract. The invariant: the first q cells have the least patterns by the setting's scale. Assumes nothing.
use mathlib.Core.Path.{◌≡◌}
use Prim.Native.Nat.{◌*◌, ◌^◌, ◌≤◌}
use lib.ListN.{length}
use Rattle.counting.specs.Paper.Lists.{listed, over}
use Rattle.quantiser_table.specs.Scales.{least_by}
use Rattle.quantiser_table.proofs.build.Given as goal

abbrev pub invariant-loop-q : goal.invariant-loop-q
invariant-loop-q l =
    (l.q ≤ 2050) × (length l.table ≡ length l.initial.table) × (l.table ≡ over (listed l.q (least_by l.scale.gain l.scale.top (l.scale.sig * 2 ^ l.scale.shift))) l.initial.table)
