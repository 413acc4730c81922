-- `one_step_core::hand_back`: packed, and counted against what was received. Assumes nothing.
use Rattle.answers.specs.Paper.Enums.{report_of}
use Rattle.counting.specs.Places.{at}
use Rattle.one_step_core.proofs.Results.{handed-back}
use Rattle.one_step_core.proofs.hand_back.Goals as goal

pub returns : goal.returns
returns c =
    let s = c in
    let p = c.pack_into in
    handed-back s.args.n (at s.args.bits.now) s.args.word.now p.new.w p.ensures s.args.received.now
    s.args.stop.rounds s.args.stop.failing c.differing-changed.result (report_of c.ended.result) c.differing-changed.ensures
    c.ended.ensures
