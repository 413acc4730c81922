-- `program_ends::reply_to` meets its contract: the bytes that came are the front of the buffer. Assumes nothing.
use mathlib.Core.Path.{sym}
use lib.Seq.{length-take-le}
use Rattle.program_ends.proofs.reply_to.Goals as goal

pub slice_bounds-advance-end : goal.slice_bounds-advance-end
slice_bounds-advance-end c =
    let s = c in
    sym (length-take-le s.args.got s.args.input.now s.requires.0)
