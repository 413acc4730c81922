use mathlib.Core.Path.{sym}
use native.Mathlib.Omega.{arith}
use Rattle.counting.proofs.Writes.{over_none}
use Rattle.syndrome_sets.proofs.Turns.{column-step}
use Rattle.syndrome_sets.proofs.turn_column.Goals as goal

pub loop-w-init : goal.loop-w-init
loop-w-init g c = sym (over_none _ c.args.parity.now)

pub loop-w-preserved : goal.loop-w-preserved
loop-w-preserved g c =
    let a = c.args in
    let o = c.loop-w in
    column-step a.columns.now a.parity.now o.parity a.from o.w (omega arith) o.invariant
