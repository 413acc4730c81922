-- `program_block::block` meets its contract: the line of the answer and the word. Assumes nothing.
use native.Mathlib.Omega.{arith}
use lib.ListN.{length-take}
use Rattle.matrix.specs.Paper.Shapes.{matrix_of}
use Rattle.quantiser_settings.specs.Paper.Settings.{setting_of}
use Rattle.program_block.proofs.Lines.{line-put}
use Rattle.program_block.proofs.block.Goals as goal

pub decode-answer-requires : goal.decode-answer-requires
decode-answer-requires c =
    let s = c in
    (record { decodable = s.requires.0.decodable; bytes = s.requires.0.bytes; room = omega (arith, s.requires.0.decodable.matrix.sizes.n_most) }, s.requires.1)

pub slice_bounds-put_block-end : goal.slice_bounds-put_block-end
slice_bounds-put_block-end c = simp length-take (omega arith)

pub put_block-requires : goal.put_block-requires
put_block-requires c = simp length-take (omega arith)

pub returns : goal.returns
returns c =
    let p = c in
    let d = p in
    let s = d in
    line-put (matrix_of s.args.shape s.args.list.now) (setting_of s.args.setting) s.args.number s.args.bytes.now
    s.requires.0.decodable.matrix.sizes.n_most d.decode-answer.ensures p.put_block.ensures
