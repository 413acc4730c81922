-- `sheet_blocks::split_row` meets its contract. The loop's invariant: the first `k` starts and shifts are written over the old ones.
-- Assumes nothing.
use mathlib.Core.Path.{◌≡◌}
use Rattle.counting.specs.Paper.Lists.{listed, over}
use Rattle.sheet_blocks.proofs.Blocks.{start_by, shift_by}
use Rattle.sheet_blocks.proofs.split_row.Given as goal

abbrev pub invariant-loop-k : goal.invariant-loop-k
invariant-loop-k l =
    (l.starts ≡ over (listed l.k (start_by l.list l.z l.from)) l.initial.starts) × (l.shifts ≡ over (listed l.k (shift_by l.list l.z l.from)) l.initial.shifts)
