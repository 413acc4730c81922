-- `session_round::step_accepted` meets its contract: one round, and the counts on the word that it leaves. Assumes nothing.
use mathlib.Core.List.{List}
use Prim.Native.Nat.{ℕ}
use lib.IntN.{ℤ}
use Rattle.matrix.specs.Paper.Code.{Matrix}
use Rattle.matrix.specs.Paper.Shapes.{matrix_of}
use Rattle.session_asking.specs.Paper.Asked.{Held}
use Rattle.session_asking.specs.Paper.Asked.{held_of}
use Rattle.session.proofs.Answers.{step-lent, step-leaves}
use Rattle.session_round.proofs.step_accepted.Goals as goal

pub round_on-failing-requires : goal.round_on-failing-requires
round_on-failing-requires c =
    let lent_matrix : Matrix = matrix_of c.args.shape c.args.list.now in
    let received : List ℕ = c.args.received.now in
    let opened : List ℤ = c.args.opened.now in
    let held : Held = held_of c.args.session c.args.word.now c.args.levels.now in
    let m = c in
    let s = c in
    step-lent (lent_matrix) (received) (opened) (held) s.requires _ m.largest_of-middle.ensures

pub returns : goal.returns
returns c =
    let lent_matrix : Matrix = matrix_of c.args.shape c.args.list.now in
    let received : List ℕ = c.args.received.now in
    let opened : List ℤ = c.args.opened.now in
    let held : Held = held_of c.args.session c.args.word.now c.args.levels.now in
    let r = c in
    let s = c in
    step-leaves (lent_matrix) (received) (opened) (held) s.requires _ _ _ _ c.largest_of-middle.ensures r.round_on-failing.ensures _ _ _
    c.changed_since-changed.ensures c.after_round.ensures.0 c.after_round.ensures.1
