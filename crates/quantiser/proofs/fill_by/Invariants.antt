-- `quantiser::fill_by` meets its contract. The invariant: the levels and the hard bits of the samples passed are stored,
-- and the other cells stay. Assumes nothing.
use Prim.Native.Nat.{◌*◌, ◌^◌}
use Rattle.quantiser_levels.specs.Paper.Samples.{hard_bit}
use Rattle.quantiser_levels.specs.Scale.{level_at}
use Rattle.quantiser.specs.Buffers.{Stored}
use Rattle.quantiser.proofs.fill_by.Given as goal

abbrev pub invariant-loop-j : goal.invariant-loop-j
invariant-loop-j l =
    Stored (level_at l.scale.gain l.scale.top (l.scale.sig * 2 ^ l.scale.shift) l.samples) (hard_bit l.samples) l.j l.initial.levels l.levels l.initial.cells l.cells
