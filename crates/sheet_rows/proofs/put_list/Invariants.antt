-- `sheet_rows::put_list`. The loop's invariant: the first `r` block rows are written over the memory.
use Prim.Native.Nat.{◌*◌}
use mathlib.Core.Path.{◌≡◌}
use Rattle.counting.specs.Paper.Lists.{listed, over}
use Rattle.sheet_rows.proofs.Listing.{cells}
use Rattle.sheet_rows.proofs.put_list.Given as goal

abbrev pub invariant-loop-r : goal.invariant-loop-r
invariant-loop-r l = l.list ≡ over (listed (l.r * (l.h.size * l.rho)) (cells l.bytes)) l.initial.list
