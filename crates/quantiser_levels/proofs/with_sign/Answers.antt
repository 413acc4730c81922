-- `quantiser_levels::with_sign` meets its contract: minus a number below half the cell is that number with the other sign. Assumes nothing.
use mathlib.Core.Path.{sym, ap, ◌∙◌}
use mathlib.Core.Bool.{Bool}
use Prim.Native.Nat.{◌^◌, ◌<◌}
use native.Mathlib.Nat.{lt_of_lt_of_le}
use lib.Dec.{lit≤}
use mir.Val.{hbits}
use mir.ValLaws.{to_z_pos}
use Rattle.quantiser_levels.specs.Paper.Samples.{signed}
use Rattle.quantiser_levels.proofs.Signs.{cell, minus-fits, minus-back}
use Rattle.quantiser_levels.proofs.with_sign.Goals as goal

pub overflow_sub-result : goal.overflow_sub-result
overflow_sub-result c =
    let room : c.args.n < 2 ^ hbits cell = lt_of_lt_of_le c.requires (lit≤ tt) in
    minus-fits cell c.args.n (room)

pub returns-then-negative : goal.returns-then-negative
returns-then-negative c =
    let room : c.args.n < 2 ^ hbits cell = lt_of_lt_of_le c.requires (lit≤ tt) in
    minus-back cell c.args.n (room) ∙ sym (ap (λ (b : Bool). signed b c.args.n) c.if-negative.true)

pub returns-else-negative : goal.returns-else-negative
returns-else-negative c =
    let room : c.args.n < 2 ^ hbits cell = lt_of_lt_of_le c.requires (lit≤ tt) in
    to_z_pos cell c.args.n (room) ∙ sym (ap (λ (b : Bool). signed b c.args.n) c.if-negative.false)
