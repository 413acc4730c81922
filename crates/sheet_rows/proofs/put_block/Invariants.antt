-- `sheet_rows::put_block`. The loop's invariant: the first `i` rows are written.
use mathlib.Core.Path.{◌≡◌}
use Rattle.sheet_rows.specs.Parts.{turned_at, put_rows}
use Rattle.sheet_rows.proofs.put_block.Given as goal

abbrev pub invariant-loop-i : goal.invariant-loop-i
invariant-loop-i l = l.list ≡ put_rows l.p l.rho (turned_at l.starts l.shifts l.z) l.i l.initial.list
