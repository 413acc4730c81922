-- `quantiser_table::least_pattern` meets its contract. The invariant: the least pattern is within the span (`proofs/Rising.antt`). Assumes nothing.
use Prim.Native.Nat.{◌-◌, ◌*◌, ◌^◌}
use Rattle.quantiser_table.specs.Scales.{Between}
use Rattle.quantiser_table.proofs.least_pattern.Given as goal

abbrev pub invariant-loop-s : goal.invariant-loop-s
invariant-loop-s l = Between l.scale.gain l.scale.top (l.scale.sig * 2 ^ l.scale.shift) l.q l.s.from l.s.to

abbrev pub decreases-loop-s : goal.decreases-loop-s
decreases-loop-s l = l.s.to - l.s.from
