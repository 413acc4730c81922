-- `session_asking::is_beyond` meets its contract: the spare places lie in the word's own bytes. Assumes nothing.
use mathlib.Core.Path.{sym, ◌∙◌}
use Rattle.session_asking.proofs.Parts.{spare-front}
use Rattle.session_asking.proofs.is_beyond.Goals as goal

pub returns-then-spare_set : goal.returns-then-spare_set
returns-then-spare_set c =
    let a = c.args in
    rw (sym (spare-front a.n a.word.now) ∙ sym c.spare_set.ensures ∙ c.if-spare_set.true) c.if-spare_set.true

pub returns-else-spare_set : goal.returns-else-spare_set
returns-else-spare_set c =
    let a = c.args in
    rw (sym (spare-front a.n a.word.now) ∙ sym c.spare_set.ensures ∙ c.if-spare_set.false) c.any_far.ensures
