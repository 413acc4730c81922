-- `failing_checks::failing_accepted` meets its contract: a refusal of the received word, else its failing checks. Assumes nothing.
use Prim.Native.Nat.{ℕ}
use mathlib.Core.Path.{sym, ap, ◌∙◌}
use Rattle.answers.specs.Paper.Answers.{count}
use Rattle.answers.specs.Paper.Enums.{refusal_number, refusal_place}
use Rattle.answers.proofs.Verdicts.{handed_on}
use Rattle.packed_word.specs.Paper.Packed.{bytes_for}
use Rattle.matrix.specs.Paper.Shapes.{matrix_of}
use Rattle.matrix.proofs.PlainCheck.{is-accepted}
use Rattle.syndrome.proofs.Received.{word_fits}
use Rattle.failing_checks.proofs.Verdicts.{failing-refused, failing-says}
use Rattle.failing_checks.proofs.failing_accepted.Goals as goal

pub count-requires : goal.count-requires
count-requires c =
    let k = c in
    let s = c in
    let n = s.args.shape.n in
    (s.requires, (word_fits n s.args.received.now (bytes_for n) n (sym c.in_ok-ask_word.ensures)).0)

pub returns : goal.returns
returns c =
    let k = c in
    let s = c in
    let H = matrix_of s.args.shape s.args.list.now in
    ap (λ (k : ℕ). count k) c.count.ensures
    ∙ failing-says H s.args.received.now (is-accepted H s.requires) (sym c.in_ok-ask_word.ensures)

pub returns-in_err-ask_word : goal.returns-in_err-ask_word
returns-in_err-ask_word c =
    let k = c in
    let s = c in
    let H = matrix_of s.args.shape s.args.list.now in
    let e = handed_on _ _ c.from_residual.ensures.1 in
    rw e (failing-refused H s.args.received.now (is-accepted H s.requires) (refusal_number c.in_err-ask_word.field-0.0) (refusal_place c.in_err-ask_word.field-0.0)
    (sym c.in_err-ask_word.ensures))
