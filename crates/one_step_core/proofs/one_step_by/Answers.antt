-- `one_step_core::one_step_by` meets its contract: unpacked, voted on, and handed back. Assumes nothing.
use lib.ListN.{replicate}
use Rattle.answers.specs.Paper.Enums.{report_of}
use Rattle.matrix.specs.Paper.Code.{Matrix}
use Rattle.matrix.specs.Paper.Shapes.{matrix_of}
use Rattle.syndrome.proofs.Unpacked.{unpacked-word}
use Rattle.one_step_core.proofs.Results.{hand-back-lent, voted-call}
use Rattle.one_step_core.proofs.one_step_by.Goals as goal

pub vote-stop-requires : goal.vote-stop-requires
vote-stop-requires g c =
    let lent : Matrix = matrix_of c.args.shape c.args.list.now in
    let s = c in
    let u = c.unpack in
    (s.requires.0.matrix, s.requires.1, unpacked-word (lent) s.args.received.now (replicate 1023 0) u.new.bits u.ensures)

pub hand_back-requires : goal.hand_back-requires
hand_back-requires g c =
    let lent : Matrix = matrix_of c.args.shape c.args.list.now in
    let s = c in
    let v = c.vote-stop in
    let u = c.unpack in
    hand-back-lent (lent) s.args.received.now s.args.word.now s.requires.0 (replicate 1023 0) u.new.bits v.new.bits
    v.result.rounds v.result.failing u.ensures v.ensures

pub returns : goal.returns
returns g c =
    let lent : Matrix = matrix_of c.args.shape c.args.list.now in
    let s = c in
    let h = c.hand_back in
    let v = c.vote-stop in
    let u = c.unpack in
    voted-call (lent) s.args.received.now s.args.word.now s.requires.0 (replicate 1023 0) u.new.bits v.new.bits
    v.result.rounds v.result.failing u.ensures v.ensures h.new.word (report_of h.result) h.ensures
