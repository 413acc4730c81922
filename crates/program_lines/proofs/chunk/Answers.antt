-- `program_lines::chunk` meets its contract: the lines, and `short` unless the bytes end with a block. Assumes nothing.
use Rattle.matrix.specs.Paper.Shapes.{matrix_of}
use Rattle.quantiser_settings.specs.Paper.Settings.{setting_of}
use Rattle.program_lines.proofs.BlockLines.{chunk_whole, chunk-cut}
use Rattle.program_lines.proofs.chunk.Goals as goal

pub returns-then-bytes-size-eq0 : goal.returns-then-bytes-size-eq0
returns-then-bytes-size-eq0 c =
    let p = c in
    let s = p in
    chunk_whole (matrix_of s.args.shape s.args.list.now) (setting_of s.args.setting) s.args.number s.args.bytes.now s.args.at
    s.args.out.now
    c.if-bytes-size-eq0.true p.lines-end.ensures

pub returns : goal.returns
returns c =
    let q = c in
    let p = q in
    let s = p in
    chunk-cut (matrix_of s.args.shape s.args.list.now) (setting_of s.args.setting) s.args.number s.args.bytes.now s.args.at
    s.args.out.now
    q.if-bytes-size-eq0.false p.lines-end.ensures q.put_short.ensures
