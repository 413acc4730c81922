-- `session_asking::ask_step` meets its contract: the record and the matrix are asked, then what is lent with them. Assumes nothing.
use mathlib.Core.Path.{sym}
use mathlib.Core.List.{List}
use Prim.Native.Nat.{ℕ}
use lib.IntN.{ℤ}
use Rattle.answers.specs.Paper.Enums.{refusal_number, refusal_place}
use Rattle.answers.proofs.Verdicts.{handed_on}
use Rattle.matrix.specs.Paper.Code.{Matrix}
use Rattle.matrix.specs.Paper.Shapes.{matrix_of}
use Rattle.session_asking.specs.Paper.Asked.{Held}
use Rattle.session_asking.specs.Paper.Asked.{held_of}
use Rattle.session_asking.proofs.Questions.{known-usable, known-matrix}
use Rattle.session_asking.proofs.Parts.{says-known, says-lent}
use Rattle.session_asking.proofs.ask_step.Goals as goal

pub ask_lent-requires : goal.ask_lent-requires
ask_lent-requires c =
    let lent_matrix : Matrix = matrix_of c.args.shape c.args.list.now in
    let held : Held = held_of c.args.session c.args.word.now c.args.levels.now in
    let k = c in
    let s = c in
    let e = sym c.in_ok-ask_known.ensures in
    (known-matrix (lent_matrix) (held).rec e, known-usable (lent_matrix) (held).rec e)

pub returns : goal.returns
returns c =
    let lent_matrix : Matrix = matrix_of c.args.shape c.args.list.now in
    let received : List ℕ = c.args.received.now in
    let opened : List ℤ = c.args.opened.now in
    let held : Held = held_of c.args.session c.args.word.now c.args.levels.now in
    let k = c in
    let s = c in
    says-lent (lent_matrix) (received) (opened) (held) _ (sym c.in_ok-ask_known.ensures)
    c.ask_lent.ensures

pub returns-in_err-ask_known : goal.returns-in_err-ask_known
returns-in_err-ask_known c =
    let lent_matrix : Matrix = matrix_of c.args.shape c.args.list.now in
    let received : List ℕ = c.args.received.now in
    let opened : List ℤ = c.args.opened.now in
    let held : Held = held_of c.args.session c.args.word.now c.args.levels.now in
    let k = c in
    let s = c in
    let e = handed_on _ _ c.from_residual.ensures.1 in
    rw e (says-known (lent_matrix) (received) (opened) (held) (refusal_number c.in_err-ask_known.field-0.0) (refusal_place c.in_err-ask_known.field-0.0) (sym c.in_err-ask_known.ensures))
