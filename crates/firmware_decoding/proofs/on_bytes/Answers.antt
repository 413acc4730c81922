-- `firmware_decoding::on_bytes` meets its contract: refusal 8, or the decoding of the samples that the bytes are. Assumes nothing.
use mathlib.Core.Path.{refl, sym, ap, ◌∙◌}
use Prim.Native.Nat.{◌/◌}
use native.Mathlib.Omega.{arith}
use lib.ListN.{length}
use Rattle.matrix.specs.Paper.Shapes.{matrix_of}
use Rattle.quantiser_levels.specs.Paper.Samples.{first_not_finite}
use Rattle.quantiser_settings.specs.Paper.Settings.{setting_of}
use Rattle.quantiser_bytes.proofs.Blocks.{samples-n, sample-refuses, samples-pass, all-finite, all-written}
use Rattle.firmware_decoding.proofs.Answers.{answered-refused, answered-decoded}
use Rattle.firmware_decoding.proofs.on_bytes.Goals as goal

pub returns-in-Some : goal.returns-in-Some
returns-in-Some c =
    let p = c in
    let s = p in
    answered-refused (matrix_of s.args.shape s.args.list.now) (setting_of s.args.setting) s.args.samples.now s.args.word.now
    s.args.levels.now s.args.report.now _ 8 p.in-Some.place _
    (sample-refuses s.args.shape.n s.args.samples.now s.requires.bytes p.in-Some.place p.in-Some.ensures.0.place (omega (arith, s.requires.bytes, p.in-Some.ensures.1))) refl

pub slice_bounds-decode_out-end : goal.slice_bounds-decode_out-end
slice_bounds-decode_out-end c =
    let p = c in
    let s = p in
    let n = s.args.shape.n in
    let bs = s.args.samples.now in
    sym (ap length (all-written n bs s.requires.bytes (length bs / 4) p.in_default.ensures (omega (arith, s.requires.bytes))) ∙ samples-n n bs s.requires.bytes)

pub decode_out-requires : goal.decode_out-requires
decode_out-requires c =
    let e = c in
    let p = e in
    let s = p in
    let n = s.args.shape.n in
    let bs = s.args.samples.now in
    let w = all-written n bs s.requires.bytes (length bs / 4) p.in_default.ensures (omega (arith, s.requires.bytes)) in
    record {
      matrix = s.requires.matrix;
      setting = s.requires.setting;
      samples = ap length w ∙ samples-n n bs s.requires.bytes;
      each_finite = ap first_not_finite w ∙ all-finite n bs s.requires.bytes (length bs / 4) p.in_default.ensures.place (omega (arith, s.requires.bytes)) ∙ sym (ap length w);
      room_word = s.requires.room_word;
      room_levels = s.requires.room_levels;
      room_report = s.requires.room_report;
    }

pub returns : goal.returns
returns c =
    let d = c in
    let e = d in
    let p = e in
    let s = p in
    let n = s.args.shape.n in
    let bs = s.args.samples.now in
    answered-decoded (samples-pass n bs s.requires.bytes (length bs / 4) p.in_default.ensures.place (omega (arith, s.requires.bytes)))
    (all-written n bs s.requires.bytes (length bs / 4) p.in_default.ensures (omega (arith, s.requires.bytes))) d.decode_out.ensures
