-- `firmware_decoding::decode_out` meets its contract: what the core leaves, its levels and its report as bytes. Assumes nothing.
use mathlib.Core.Path.{◌≡◌, sym, ap, ◌∙◌}
use native.Mathlib.Omega.{arith}
use lib.ListN.{length, take}
use Rattle.matrix.specs.Paper.Code.{Matrix}
use Rattle.matrix.specs.Paper.Shapes.{matrix_of}
use Rattle.quantiser_settings.specs.Paper.Settings.{setting_of}
use Rattle.firmware_decoding.proofs.Answers.{levels-long, levels-front, decoded-out}
use Rattle.firmware_decoding.proofs.decode_out.Goals as goal

pub slice_bounds-levels_out-end : goal.slice_bounds-levels_out-end
slice_bounds-levels_out-end c =
    let lent : Matrix = matrix_of c.args.shape c.args.list.now in
    let front_long : let s = c in length (take s.args.shape.n c.with_index-told.new.levels) ≡ s.args.shape.n = let s = c in
    let xs = s.args.samples.now in
    let S = setting_of s.args.setting in
    ap length (levels-front (lent) S xs _ _ c.with_index-told.ensures.levels) ∙ levels-long (lent) S xs in
    sym (front_long)

pub levels_out-requires : goal.levels_out-requires
levels_out-requires c =
    let lent : Matrix = matrix_of c.args.shape c.args.list.now in
    let front_long : let s = c in length (take s.args.shape.n c.with_index-told.new.levels) ≡ s.args.shape.n = let s = c in
    let xs = s.args.samples.now in
    let S = setting_of s.args.setting in
    ap length (levels-front (lent) S xs _ _ c.with_index-told.ensures.levels) ∙ levels-long (lent) S xs in
    let w = c in
    let s = w in
    omega (arith, front_long, s.requires.room_levels)

pub returns : goal.returns
returns c =
    let lent : Matrix = matrix_of c.args.shape c.args.list.now in
    let r = c in
    let l = c in
    let w = l in
    let s = w in
    decoded-out (lent) (setting_of s.args.setting) s.args.samples.now w.with_index-told.ensures l.levels_out.ensures r.report_out.ensures
