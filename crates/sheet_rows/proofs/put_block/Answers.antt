use Prim.Native.Nat.{◌+◌, ◌*◌}
use mathlib.Core.Path.{refl}
use Rattle.sheet_rows.specs.Parts.{turned_at}
use Rattle.sheet_rows.proofs.Writing.{rows_none, rows_next}
use Rattle.sheet_rows.proofs.put_block.Goals as goal

pub loop-i-init : goal.loop-i-init
loop-i-init c = rows_none _ _ _ _

pub loop-i-preserved : goal.loop-i-preserved
loop-i-preserved c =
    let a = c.args in
    let l = c.loop-i in
    rows_next a.p a.rho (turned_at a.starts.now a.shifts.now a.z) a.list.now l.i (a.p + l.i * a.rho) l.list _ l.invariant refl c.put_row.ensures
