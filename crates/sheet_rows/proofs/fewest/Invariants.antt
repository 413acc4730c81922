-- `sheet_rows::fewest`. The loop's invariant: `low` is the fewest set places of the first `c` block columns.
use mathlib.Core.Path.{◌≡◌}
use Rattle.counting.specs.Paper.Sum.{least}
use Rattle.sheet.specs.Paper.Sheet.{block_rows, set_down}
use Rattle.sheet_rows.proofs.fewest.Given as goal

abbrev pub invariant-loop-c : goal.invariant-loop-c
invariant-loop-c l = l.low ≡ least (block_rows l.bytes) l.c (set_down l.bytes)
