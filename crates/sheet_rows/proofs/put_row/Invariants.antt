-- `sheet_rows::put_row`. The loop's invariant: the first `k` entries of the row are written.
use mathlib.Core.Path.{◌≡◌}
use Rattle.sheet_rows.specs.Parts.{turned_at, put_from}
use Rattle.sheet_rows.proofs.put_row.Given as goal

abbrev pub invariant-loop-k : goal.invariant-loop-k
invariant-loop-k l = l.list ≡ put_from l.p l.k (turned_at l.starts l.shifts l.z l.i) l.initial.list
