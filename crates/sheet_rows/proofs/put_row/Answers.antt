use Prim.Native.Nat.{◌+◌}
use mathlib.Core.Path.{ap}
use Rattle.counting.specs.Places.{at}
use Rattle.sheet_rows.specs.Parts.{turned_at}
use Rattle.sheet_rows.proofs.Writing.{put-none, put_next}
use Rattle.sheet_rows.proofs.put_row.Goals as goal

pub loop-k-init : goal.loop-k-init
loop-k-init c = put-none _ _ _

pub loop-k-preserved : goal.loop-k-preserved
unfolding turned_at
loop-k-preserved c =
    let a = c.args in
    let l = c.loop-k in
    put_next a.p (turned_at a.starts.now a.shifts.now a.z a.i) a.list.now l.k _ l.list l.invariant
    (ap (λ x. at a.starts.now l.k + x) c.turn.ensures)
