-- `session_round::step_value` meets its contract: a refused step hands everything back, an accepted one does its round. Assumes nothing.
use mathlib.Core.Path.{sym, ap, ◌∙◌}
use mathlib.Core.List.{List}
use Prim.Native.Nat.{ℕ}
use lib.IntN.{ℤ}
use Rattle.answers.specs.Paper.Enums.{verdict_of, refusal_number, refusal_place}
use Rattle.matrix.specs.Paper.Code.{Matrix}
use Rattle.matrix.specs.Paper.Shapes.{matrix_of}
use Rattle.session_record.specs.Paper.Sessions.{record_of}
use Rattle.session_asking.specs.Paper.Asked.{Held}
use Rattle.session_asking.specs.Paper.Asked.{held_of}
use Rattle.session_asking.proofs.Questions.{accepted-step}
use Rattle.session.proofs.Answers.{leaves-stepped, leaves-refused}
use Rattle.session_round.proofs.step_value.Goals as goal

pub step_accepted-requires : goal.step_accepted-requires
step_accepted-requires c =
    let lent_matrix : Matrix = matrix_of c.args.shape c.args.list.now in
    let received : List ℕ = c.args.received.now in
    let opened : List ℤ = c.args.opened.now in
    let held : Held = held_of c.args.session c.args.word.now c.args.levels.now in
    let t = c in
    let k = t in
    let s = c in
    accepted-step (lent_matrix) (received) (opened) (held) (sym k.ask_step-asked.ensures ∙ ap verdict_of t.in-Ok.is)

pub returns-in-Ok : goal.returns-in-Ok
returns-in-Ok c =
    let lent_matrix : Matrix = matrix_of c.args.shape c.args.list.now in
    let received : List ℕ = c.args.received.now in
    let opened : List ℤ = c.args.opened.now in
    let held : Held = held_of c.args.session c.args.word.now c.args.levels.now in
    let r = c in
    let t = r in
    let k = t in
    let s = c in
    leaves-stepped (lent_matrix) (received) (opened) (held) _ _ _ _ (sym k.ask_step-asked.ensures ∙ ap verdict_of t.in-Ok.is)
    r.step_accepted.ensures

pub returns-in-Err : goal.returns-in-Err
returns-in-Err c =
    let lent_matrix : Matrix = matrix_of c.args.shape c.args.list.now in
    let received : List ℕ = c.args.received.now in
    let opened : List ℤ = c.args.opened.now in
    let held : Held = held_of c.args.session c.args.word.now c.args.levels.now in
    let a = c in
    let k = a in
    let s = c in
    leaves-refused (lent_matrix) (received) (opened) (held) _ _ (refusal_number a.in-Err.f) (refusal_place a.in-Err.f)
    (sym k.ask_step-asked.ensures ∙ ap verdict_of a.in-Err.is) c.refuse.ensures.1 (ap record_of c.refuse.ensures.0)
