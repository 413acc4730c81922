-- `one_step_indexed::on_own` meets its contract: a refusal of the received word keeps the buffer, else the vote. Assumes nothing.
use mathlib.Core.Path.{refl, sym}
use Rattle.answers.specs.Paper.Enums.{refusal_number, refusal_place, report_of}
use Rattle.answers.proofs.Verdicts.{handed_on}
use Rattle.matrix.specs.Paper.Code.{Matrix}
use Rattle.matrix.specs.Paper.Shapes.{matrix_of}
use Rattle.one_step.proofs.Calls.{refused-word, word-lent, answered-voted}
use Rattle.one_step_indexed.proofs.on_own.Goals as goal

pub one_step_own-requires : goal.one_step_own-requires
one_step_own-requires c =
    let lent : Matrix = matrix_of c.args.shape c.args.list.now in
    let t = c in
    let k = t in
    let s = c in (
      word-lent (lent) s.requires.0 s.args.received.now s.args.word.now
          (sym t.in_ok-ask_word.ensures),
      s.requires.1,
    )

pub returns : goal.returns
returns c =
    let lent : Matrix = matrix_of c.args.shape c.args.list.now in
    let r = c in
    let t = r in
    let k = t in
    let s = c in
    answered-voted (lent) s.requires.0 s.args.received.now s.args.word.now (sym t.in_ok-ask_word.ensures)
    r.one_step_own.new.word (report_of r.one_step_own.result) r.one_step_own.ensures

pub returns-in_err-ask_word : goal.returns-in_err-ask_word
returns-in_err-ask_word c =
    let lent : Matrix = matrix_of c.args.shape c.args.list.now in
    let a = c in
    let k = a in
    let s = c in
    let e = handed_on _ _ c.from_residual.ensures.1 in
    rw e (refused-word (lent) s.requires.0 s.args.received.now s.args.word.now (refusal_number a.in_err-ask_word.field-0.0) (refusal_place a.in_err-ask_word.field-0.0) _
    (sym a.in_err-ask_word.ensures) refl)
