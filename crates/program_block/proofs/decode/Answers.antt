-- `program_block::decode` meets its contract: refusal 8, or the rounds from the samples' bits and levels on. Assumes nothing.
use mathlib.Core.Path.{refl, sym, ap, ◌∙◌}
use Prim.Native.Nat.{ℕ, ◌-◌, ◌<◌, ◌≤◌}
use native.Mathlib.Omega.{arith}
use lib.ListN.{length, drop, length-drop}
use lib.Seq.{length-take-le, take_all}
use Rattle.counting.specs.Places.{at}
use Rattle.matrix.specs.Paper.Code.{Matrix}
use Rattle.matrix.specs.Paper.Shapes.{matrix_of}
use Rattle.quantiser_levels.specs.Paper.Samples.{Setting}
use Rattle.quantiser_settings.specs.Paper.Settings.{setting_of}
use Rattle.quantiser_settings.proofs.Ranges.{fits-reads}
use Rattle.program_tables.proofs.Tables.{tables-long, tables-room, tables-table, tables-sets}
use Rattle.program_block.proofs.Started.{block_refused, block-lent, block-bits, block-answered}
use Rattle.program_block.proofs.decode.Goals as goal

pub largest_of-middle-requires : goal.largest_of-middle-requires
largest_of-middle-requires c =
    let r = fits-reads _ c.requires.0.decodable.setting in
    (r.least, r.most)

pub slice_bounds-take_samples-end : goal.slice_bounds-take_samples-end
slice_bounds-take_samples-end c =
    let lent : Matrix = matrix_of c.args.shape c.args.list.now in
    let by : Setting = setting_of c.args.setting in
    let front : 2050 ≤ length c.args.tables.now = omega (arith, tables-room (lent) (length c.args.tables.now) (omega (arith, ap length c.requires.1, tables-long (lent) (by)))) in
    let s = c in
    sym (length-take-le 2050 s.args.tables.now (front))

pub take_samples-requires : goal.take_samples-requires
take_samples-requires c =
    let lent : Matrix = matrix_of c.args.shape c.args.list.now in
    let by : Setting = setting_of c.args.setting in
    let s = c in (
      record {
        setting = s.requires.0.decodable.setting;
        middle = c.largest_of-middle.ensures;
        bytes = s.requires.0.bytes;
        few = s.requires.0.decodable.matrix.sizes.n_most;
        long_bits = refl;
        long_kept = refl;
        long_marks = refl;
      },
      tables-table (lent) (by) s.args.tables.now s.requires.1,
    )

pub returns-in-Some : goal.returns-in-Some
returns-in-Some c = block_refused c.requires.0 c.in-Some.ensures.0 c.in-Some.ensures.1

pub slice_bounds-run-count : goal.slice_bounds-run-count
slice_bounds-run-count c =
    let lent : Matrix = matrix_of c.args.shape c.args.list.now in
    let by : Setting = setting_of c.args.setting in
    let front : 2050 ≤ length c.args.tables.now = omega (arith, tables-room (lent) (length c.args.tables.now) (omega (arith, ap length c.requires.1, tables-long (lent) (by)))) in
    omega (arith, front, c.requires.0.decodable.matrix.sizes.n_most)

pub slice_bounds-run-start : goal.slice_bounds-run-start
slice_bounds-run-start c =
    let lent : Matrix = matrix_of c.args.shape c.args.list.now in
    let by : Setting = setting_of c.args.setting in
    let front : 2050 ≤ length c.args.tables.now = omega (arith, tables-room (lent) (length c.args.tables.now) (omega (arith, ap length c.requires.1, tables-long (lent) (by)))) in
    omega (arith, front, c.requires.0.decodable.matrix.sizes.n_most)

pub run-stop-requires : goal.run-stop-requires
run-stop-requires c =
    let lent : Matrix = matrix_of c.args.shape c.args.list.now in
    let by : Setting = setting_of c.args.setting in
    let s = c in
    let x = s.args.tables.now in
    let rest : length (drop 2050 x) ≤ length x - 2050 = omega (arith, length-drop 2050 x) in (
      block-lent s.requires.0 c.in_default.ensures.0 (omega arith) refl refl c.largest_of-middle.ensures,
      take_all (length x - 2050) (drop 2050 x) rest ∙ tables-sets (lent) (by) x s.requires.1,
    )

pub pack_into-requires : goal.pack_into-requires
pack_into-requires c =
    let bits : (j : ℕ) → j < c.args.shape.n → at c.run-stop.new.bits j < 2 = block-bits c.requires.0 c.in_default.ensures.0 (omega arith) refl refl
    c.largest_of-middle.ensures c.run-stop.ensures in
    let r = c in
    (c.requires.0.decodable.matrix.sizes.n_most, c.requires.0.room, bits)

pub turned-changed-requires : goal.turned-changed-requires
turned-changed-requires c =
    let bits : (j : ℕ) → j < c.args.shape.n → at c.run-stop.new.bits j < 2 = block-bits c.requires.0 c.in_default.ensures.0 (omega arith) refl refl
    c.largest_of-middle.ensures c.run-stop.ensures in
    let r = c in
    (c.requires.0.decodable.matrix.sizes.n_most, bits)

pub returns : goal.returns
returns c =
    let r = c in
    block-answered c.requires.0 c.in_default.ensures.0 (omega arith) refl refl
    r.largest_of-middle.ensures r.run-stop.ensures
    c.pack_into.ensures c.turned-changed.ensures c.ended.ensures
