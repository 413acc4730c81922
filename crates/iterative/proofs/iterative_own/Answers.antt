-- `iterative::iterative_own` meets its contract: a refusal of setting or samples keeps both buffers, else the decoding. Assumes nothing.
use mathlib.Core.Path.{refl, sym}
use Rattle.answers.specs.Paper.Enums.{refusal_number, refusal_place}
use Rattle.answers.proofs.Verdicts.{handed_on}
use Rattle.matrix.specs.Paper.Code.{Matrix}
use Rattle.matrix.specs.Paper.Shapes.{matrix_of}
use Rattle.iterative_core.proofs.Loans.{samples-lent}
use Rattle.iterative.proofs.Calls.{refused-samples, answered-decoded}
use Rattle.iterative.proofs.iterative_own.Goals as goal

pub iterative_accepted-requires : goal.iterative_accepted-requires
iterative_accepted-requires c =
    let lent_matrix : Matrix = matrix_of c.args.shape c.args.list.now in
    let t = c in
    let k = t in
    let s = c in
    (samples-lent (lent_matrix) _ _ _ _ s.requires.0 (sym t.in_ok-ask_samples.ensures), s.requires.1)

pub returns : goal.returns
returns c =
    let lent_matrix : Matrix = matrix_of c.args.shape c.args.list.now in
    let r = c in
    let t = r in
    let k = t in
    let s = c in
    answered-decoded (lent_matrix) _ _ _ _ s.requires.0 _ _ _ (sym t.in_ok-ask_samples.ensures)
    r.iterative_accepted.ensures

pub returns-in_err-ask_samples : goal.returns-in_err-ask_samples
returns-in_err-ask_samples c =
    let lent_matrix : Matrix = matrix_of c.args.shape c.args.list.now in
    let a = c in
    let k = a in
    let s = c in
    let e = handed_on _ _ c.from_residual.ensures.1 in
    rw e (refused-samples (lent_matrix) _ _ _ _ s.requires.0 (refusal_number a.in_err-ask_samples.field-0.0) (refusal_place a.in_err-ask_samples.field-0.0) _
    (sym a.in_err-ask_samples.ensures) refl)
