-- `syndrome::ask_word` meets its contract: its tests are refusals 7 and 9, in this order. Assumes nothing.
use mathlib.Core.Path.{◌≡◌, sym, ap, ◌∙◌}
use mathlib.Core.Bool.{Bool, false}
use lib.ListN.{length}
use Rattle.answers.specs.Paper.Answers.{accepted, refuse_when, wrong_lengths}
use Rattle.packed_word.specs.Paper.Packed.{bytes_for}
use Rattle.syndrome.proofs.Received.{word-buffer, word-spare}
use Rattle.syndrome.proofs.ask_word.Goals as goal

pub returns-then-wrong_lengths : goal.returns-then-wrong_lengths
returns-then-wrong_lengths c =
    let a = c.args in
    word-buffer a.n a.received.now a.bytes a.room (sym c.wrong_lengths.ensures ∙ c.if-wrong_lengths.true)

pub returns : goal.returns
returns c =
    let lengths : let a = c.args in wrong_lengths (length a.received.now) (bytes_for a.n) a.bytes (bytes_for a.n) a.room a.n ≡ false = sym c.wrong_lengths.ensures ∙ c.if-wrong_lengths.false in
    let e = c in
    let a = c.args in
    word-spare a.n a.received.now a.bytes a.room _ (lengths)
    (c.refused_when.ensures ∙ ap (λ (t : Bool). refuse_when 9 t accepted) c.spare_set.ensures)
