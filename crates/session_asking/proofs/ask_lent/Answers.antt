-- `session_asking::ask_lent` meets its contract: 7, 9 and 23 are asked in this order. Assumes nothing.
use mathlib.Core.Path.{sym, ap, ◌∙◌}
use mathlib.Core.Bool.{Bool}
use mathlib.Core.List.{List}
use Prim.Native.Nat.{ℕ}
use lib.IntN.{ℤ}
use lib.ListN.{length}
use Rattle.answers.specs.Paper.Answers.{accepted, refuse_when}
use Rattle.answers.specs.Paper.Enums.{refusal_number, refusal_place}
use Rattle.answers.proofs.Verdicts.{handed_on}
use Rattle.matrix.specs.Paper.Code.{Matrix}
use Rattle.matrix.specs.Paper.Shapes.{matrix_of}
use Rattle.syndrome.proofs.Received.{word_fits}
use Rattle.session_asking.specs.Paper.Asked.{Held, beyond}
use Rattle.session_asking.specs.Parts.{beyond_in}
use Rattle.session_asking.specs.Paper.Asked.{held_of}
use Rattle.session_asking.proofs.Parts.{says-opened, says-word, says-beyond}
use Rattle.session_asking.proofs.ask_lent.Goals as goal

pub returns-then-opened-n : goal.returns-then-opened-n
returns-then-opened-n c =
    let lent_matrix : Matrix = matrix_of c.args.shape c.args.list.now in
    let received : List ℕ = c.args.received.now in
    let opened : List ℤ = c.args.opened.now in
    let held : Held = held_of c.args.session c.args.word.now c.args.levels.now in
    let s = c in
    says-opened (lent_matrix) (received) (opened) (held) c.if-opened-n.true

pub is_beyond-requires : goal.is_beyond-requires
is_beyond-requires c =
    let received : List ℕ = c.args.received.now in
    let lent_matrix : Matrix = matrix_of c.args.shape c.args.list.now in
    let k = c in
    let s = c in
    let a = s.args in
    let fit = word_fits a.shape.n (received) (length a.word.now) (length a.levels.now) (sym c.in_ok-ask_word.ensures) in
    (s.requires.0.sizes.n_most, fit.1, fit.2)

pub returns : goal.returns
unfolding beyond
returns c =
    let lent_matrix : Matrix = matrix_of c.args.shape c.args.list.now in
    let received : List ℕ = c.args.received.now in
    let opened : List ℤ = c.args.opened.now in
    let held : Held = held_of c.args.session c.args.word.now c.args.levels.now in
    let t = c in
    let k = t in
    let s = c in
    let a = s.args in
    says-beyond (lent_matrix) (received) (opened) (held) k.if-opened-n.false _ (sym c.in_ok-ask_word.ensures)
    (c.refused_when.ensures
    ∙ ap (λ (t : Bool). refuse_when 23 t accepted)
    (c.is_beyond.ensures ∙ ap (λ (L : ℕ). beyond_in a.shape.n L a.word.now a.levels.now) k.largest_of-middle.ensures))

pub returns-in_err-ask_word : goal.returns-in_err-ask_word
returns-in_err-ask_word c =
    let lent_matrix : Matrix = matrix_of c.args.shape c.args.list.now in
    let received : List ℕ = c.args.received.now in
    let opened : List ℤ = c.args.opened.now in
    let held : Held = held_of c.args.session c.args.word.now c.args.levels.now in
    let a = c in
    let k = a in
    let s = c in
    let e = handed_on _ _ c.from_residual.ensures.1 in
    rw e (says-word (lent_matrix) (received) (opened) (held) k.if-opened-n.false (refusal_number a.in_err-ask_word.field-0.0) (refusal_place a.in_err-ask_word.field-0.0) (sym c.in_err-ask_word.ensures))
