-- `quantiser_table::magnitude_at` meets its contract: a pattern below that of infinity has a finite float without a minus sign. Assumes nothing.
use mathlib.Core.Path.{◌≡◌, ap, ◌∙◌}
use Prim.Native.Nat.{◌*◌, ◌^◌}
use native.Mathlib.Omega.{arith}
use borrow.Author.Rules.{sfits_of}
use lib.IntN.{pos, nat_abs}
use mir.Val.{to_z, of_z}
use mir.ValLaws.{to_z-of_z}
use Rattle.byte_numbers.proofs.Patterns.{no_nan}
use Rattle.quantiser_levels.proofs.Signs.{cell}
use Rattle.quantiser_table.specs.Scales.{magnitude_by}
use Rattle.quantiser_table.proofs.Patterns.{below-finite, finite-below}
use Rattle.quantiser_table.proofs.Rising.{level-plain, by_most}
use Rattle.quantiser_table.proofs.magnitude_at.Goals as goal

pub float_from_bits-p : goal.float_from_bits-p
float_from_bits-p c = no_nan c.args.p (below-finite c.args.p c.requires.1)

pub level_by-requires : goal.level_by-requires
level_by-requires c = (c.requires.0, finite-below c.args.p c.requires.1)

pub overflow_cast-result : goal.overflow_cast-result
overflow_cast-result c =
    let level : let s = c.args.scale in to_z cell (of_z cell c.level_by.result) ≡ pos (magnitude_by s.gain s.top (s.sig * 2 ^ s.shift) c.args.p) = let s = c.args.scale in
    to_z-of_z cell c.level_by.result (sfits_of c.level_by.type_inv) ∙ c.level_by.ensures
    ∙ level-plain s.gain s.top (s.sig * 2 ^ s.shift) c.args.p c.requires.1 in
    let s = c.args.scale in
    rw (level) (tt, omega (arith, by_most s.gain s.top (s.sig * 2 ^ s.shift) c.args.p, c.requires.0.most))

pub returns : goal.returns
returns c =
    let level : let s = c.args.scale in to_z cell (of_z cell c.level_by.result) ≡ pos (magnitude_by s.gain s.top (s.sig * 2 ^ s.shift) c.args.p) = let s = c.args.scale in
    to_z-of_z cell c.level_by.result (sfits_of c.level_by.type_inv) ∙ c.level_by.ensures
    ∙ level-plain s.gain s.top (s.sig * 2 ^ s.shift) c.args.p c.requires.1 in
    ap nat_abs (level)
