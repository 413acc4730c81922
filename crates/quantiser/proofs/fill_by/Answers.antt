use mathlib.Core.Path.{◌≡◌, subst, ◌∙◌}
use Prim.Native.Nat.{ℕ, ◌*◌, ◌^◌}
use native.Mathlib.Omega.{arith}
use borrow.Author.Rules.{sfits_of}
use mir.ValLaws.{to_z-of_z}
use lib.ListN.{length}
use Rattle.quantiser_levels.specs.Paper.Samples.{hard_bit}
use Rattle.quantiser_levels.specs.Scale.{level_at}
use Rattle.quantiser.specs.Buffers.{Stored}
use Rattle.quantiser_settings.proofs.Ranges.{all-finite}
use Rattle.quantiser_levels.proofs.Signs.{cell}
use Rattle.quantiser.proofs.Buffers.{stored-none, stored_more}
use Rattle.quantiser.proofs.fill_by.Goals as goal

pub loop-j-init : goal.loop-j-init
loop-j-init c = stored-none

pub level_by-requires : goal.level_by-requires
level_by-requires c =
    let z = c in
    let room = z.requires.roomy in
    (z.requires.narrow, all-finite z.args.samples.now room.each_finite c.loop-j.j (omega arith))

pub loop-j-preserved : goal.loop-j-preserved
unfolding level_at hard_bit
loop-j-preserved c =
    let l = c in
    let z = l in
    let room = z.requires.roomy in
    stored_more (omega (arith, room.room)) (omega (arith, room.cells))
    (to_z-of_z cell c.level_by.result (sfits_of c.level_by.type_inv) ∙ c.level_by.ensures)
    c.hard_bit.ensures
    l.loop-j.invariant

pub shape_of-levels : goal.shape_of-levels
shape_of-levels c = c.loop-j.invariant.broad

pub shape_of-cells : goal.shape_of-cells
shape_of-cells c = c.loop-j.invariant.long

pub returns : goal.returns
returns c =
    let l = c.loop-j in
    let z = c in
    let s = z.args.scale in
    let xs = z.args.samples.now in
    let n : l.j ≡ length xs = omega arith in
    subst
    (λ (k : ℕ). Stored (level_at s.gain s.top (s.sig * 2 ^ s.shift) xs) (hard_bit xs) k
    z.args.levels.now l.levels z.args.cells.now l.cells)
    n l.invariant
