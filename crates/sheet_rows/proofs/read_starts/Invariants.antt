-- `sheet_rows::read_starts`. The loop's invariant: `k` of the first `c` blocks are set, and their starting columns are written.
use mathlib.Core.Path.{◌≡◌}
use Rattle.counting.specs.Paper.Sum.{sum_below}
use Rattle.sheet.specs.Paper.Sheet.{set_at}
use Rattle.sheet_rows.specs.Parts.{Starts}
use Rattle.sheet_rows.proofs.read_starts.Given as goal

abbrev pub invariant-loop-c : goal.invariant-loop-c
invariant-loop-c l = (l.k ≡ sum_below l.c (set_at l.bytes l.r)) × Starts l.bytes l.r l.c l.starts
