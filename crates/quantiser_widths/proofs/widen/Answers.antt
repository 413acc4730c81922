-- `quantiser_widths::widen` meets its contract: refusal 7 where there is no room, else the old numbers. Assumes nothing.
use native.Mathlib.Omega.{arith}
use lib.ListN.{length}
use Rattle.quantiser_widths.proofs.Verdicts.{widen-short, widen-accepted, widened-refused, widened-accepted}
use Rattle.quantiser_widths.proofs.widen.Goals as goal

pub returns-then-levels-old : goal.returns-then-levels-old
returns-then-levels-old c =
    let a = c.args in
    widened-refused (widen-short a.old.now (length a.levels.now) (omega (arith, c.if-levels-old.true)))

pub returns : goal.returns
returns c =
    let e = c in
    let a = e.args in
    widened-accepted (widen-accepted a.old.now (length a.levels.now) (omega (arith, e.if-levels-old.false))) c.widen_into.ensures
