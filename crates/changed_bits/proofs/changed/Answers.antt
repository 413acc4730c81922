-- `changed_bits::changed` meets its contract: refusal 7 by each of the two lengths, else the number of places. Assumes nothing.
use mathlib.Core.Path.{◌∙◌}
use native.Mathlib.Omega.{arith}
use Rattle.changed_bits.specs.Paper.Call.{Comparable}
use Rattle.changed_bits.proofs.Verdicts.{unlike-refused, longer-refused, counted-said}
use Rattle.changed_bits.proofs.changed.Goals as goal

pub returns-then-a-b : goal.returns-then-a-b
returns-then-a-b c =
    let a = c.args in
    unlike-refused a.a.now a.b.now c.if-a-b.true

pub returns-then-a-gt-MOST_BYTES : goal.returns-then-a-gt-MOST_BYTES
returns-then-a-gt-MOST_BYTES c =
    let a = c.args in
    longer-refused a.a.now a.b.now (omega (arith, c.if-a-gt-MOST_BYTES.true))

pub returns : goal.returns
returns c =
    let a = c.args in
    let fit : Comparable a.a.now a.b.now = record { equal = c.if-a-b.false; most = omega (arith, c.if-a-gt-MOST_BYTES.false) } in
    c.ended.ensures ∙ counted-said a.a.now a.b.now fit c.differing.result c.differing.ensures
