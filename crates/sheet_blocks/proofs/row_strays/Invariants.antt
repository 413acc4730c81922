-- `sheet_blocks::row_strays` meets its contract. The loop's invariant: `count` is the number of strays among the first `k` entries.
-- Assumes nothing.
use mathlib.Core.Path.{◌≡◌}
use Rattle.counting.specs.Paper.Sum.{sum_below}
use Rattle.sheet_blocks.specs.Parts.{strays}
use Rattle.sheet_blocks.proofs.row_strays.Given as goal

abbrev pub invariant-loop-k : goal.invariant-loop-k
invariant-loop-k l = l.count ≡ sum_below l.k (strays l.list l.rho l.z l.r l.i)
