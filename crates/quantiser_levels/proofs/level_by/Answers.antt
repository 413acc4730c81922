-- `quantiser_levels::level_by` meets its contract: the sign and the units are those of the float taken apart. Assumes nothing.
use mathlib.Core.Path.{sym, ap, ap₂, ◌∙◌}
use Prim.Native.Nat.{ℕ, min, ◌*◌, ◌^◌}
use borrow.Author.Rules.{sfits_of}
use mir.ValLaws.{to_z-of_z}
use Rattle.quantiser_levels.specs.Paper.Samples.{nearest_whole, signed}
use Rattle.quantiser_levels.specs.Scale.{level_by}
use Rattle.quantiser_levels.proofs.Signs.{cell}
use Rattle.quantiser_levels.proofs.level_by.Goals as goal

pub returns : goal.returns
unfolding level_by
returns c =
    let s = c.args.s in
    let y = c.take_apart-y.ensures in
    to_z-of_z cell c.with_sign.result (sfits_of c.with_sign.type_inv)
    ∙ c.with_sign.ensures
    ∙ ap₂ signed y.sign
    (c.magnitude_of.ensures ∙ sym (ap (λ (n : ℕ). min s.top (nearest_whole (s.gain * n) (s.sig * 2 ^ s.shift))) y.value))
