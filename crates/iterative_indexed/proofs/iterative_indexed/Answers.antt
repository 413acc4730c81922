-- `iterative_indexed::iterative_indexed` meets its contract: the refusal of matrix or index, else what follows with the matrix's own index. Assumes nothing.
use mathlib.Core.Path.{◌≡◌, refl, sym}
use Rattle.answers.specs.Paper.Enums.{refusal_number, refusal_place}
use Rattle.answers.proofs.Verdicts.{handed_on}
use Rattle.matrix.specs.Paper.Code.{Matrix}
use Rattle.matrix.specs.Paper.Shapes.{matrix_of}
use Rattle.matrix.specs.Paper.PlainCheck.{Accepted}
use Rattle.matrix.proofs.PlainCheck.{accepted-is}
use Rattle.matrix_index.specs.Paper.Index.{index_of}
use Rattle.matrix_index_check.proofs.Claims.{both-accepted}
use Rattle.iterative_indexed.proofs.Refusals.{refused-either}
use Rattle.iterative_indexed.proofs.Calls.{answered-own, answered-alike}
use Rattle.iterative_indexed.proofs.iterative_indexed.Goals as goal

pub iterative_own-requires : goal.iterative_own-requires
iterative_own-requires c =
    let lent : Matrix = matrix_of c.args.shape c.args.list.now in
    let both : let s = c in Accepted (lent) × (s.args.index.now ≡ index_of (lent)) = let k = c in
    let s = c in
    let y = both-accepted (lent) s.args.index.now (sym c.in_ok-check_indexed.ensures) in
    (accepted-is (lent) y.0, y.1) in
    both

pub returns : goal.returns
returns c =
    let lent : Matrix = matrix_of c.args.shape c.args.list.now in
    let both : let s = c in Accepted (lent) × (s.args.index.now ≡ index_of (lent)) = let k = c in
    let s = c in
    let y = both-accepted (lent) s.args.index.now (sym c.in_ok-check_indexed.ensures) in
    (accepted-is (lent) y.0, y.1) in
    let r = c in
    let t = r in
    let s = c in
    let e = r.iterative_own.ensures in
    record { answer = answered-own (lent) s.args.index.now _ _ _ _ _ _ _ (both).1 e; alike = λ own. e }

pub returns-in_err-check_indexed : goal.returns-in_err-check_indexed
returns-in_err-check_indexed c =
    let lent : Matrix = matrix_of c.args.shape c.args.list.now in
    let k = c in
    let s = c in
    let e = refused-either (lent) s.args.index.now _ _ _ _ (refusal_number c.in_err-check_indexed.field-0.0) (refusal_place c.in_err-check_indexed.field-0.0) _
    (sym c.in_err-check_indexed.ensures) refl in
    let told = handed_on _ _ c.from_residual.ensures.1 in
    rw told (record { answer = e; alike = λ own. answered-alike (lent) s.args.index.now _ _ _ _ _ _ _ own e })
