use mathlib.Core.Path.{◌≡◌, ap, ◌∙◌}
use native.Mathlib.Nat.{le_antisymm}
use native.Mathlib.Omega.{arith}
use lib.IntN.{ℤ, pos}
use lib.ListN.{length, get_or}
use borrow.Author.Rules.{rules}
use mir.ValLaws.{to_z-of_z}
use Rattle.quantiser_levels.proofs.Signs.{cell}
use Rattle.firmware_codes.specs.Paper.Codes.{level_number}
use Rattle.firmware_codes.proofs.Levels.{levels-none, levels-next, levels-all}
use Rattle.firmware_codes.proofs.levels_out.Goals as goal

pub loop-j-init : goal.loop-j-init
loop-j-init c = levels-none c.args.levels.now c.args.bytes.now

pub loop-j-preserved : goal.loop-j-preserved
loop-j-preserved c =
    let a = c.args in
    let l = c.loop-j in
    let r : ℤ = get_or a.levels.now l.j (pos 0) in
    levels-next a.levels.now a.bytes.now l.j c.level_number.result l.bytes c.put16.new.bytes
    (c.level_number.ensures ∙ ap level_number (to_z-of_z cell r (record { sfits = search rules }))) l.invariant c.put16.ensures

pub returns : goal.returns
returns c =
    let e : c.loop-j.j ≡ length c.args.levels.now = le_antisymm (omega arith) (omega arith) in
    levels-all c.args.levels.now c.args.bytes.now c.loop-j.bytes c.requires (rw e at c.loop-j.invariant)
