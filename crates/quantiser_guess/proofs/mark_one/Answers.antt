-- `quantiser_guess::mark_one` meets its contract. Assumes nothing.
use mathlib.Core.Path.{sym, ap}
use mathlib.Core.Bool.{Bool, cond}
use borrow.Author.Tests.{eq-eqb, ne_eqb}
use Rattle.quantiser_guess.specs.Guess.{mark_by}
use Rattle.quantiser_guess.proofs.mark_one.Goals as goal

pub returns-then-g-eq0 : goal.returns-then-g-eq0
unfolding mark_by
returns-then-g-eq0 c =
    let a = c.args in
    sym (ap (λ (b : Bool). cond b 2 a.z) (eq-eqb a.g 0 c.if-g-eq0.true))

pub returns-else-g-eq0 : goal.returns-else-g-eq0
unfolding mark_by
returns-else-g-eq0 c =
    let a = c.args in
    sym (ap (λ (b : Bool). cond b 2 a.z) (ne_eqb a.g 0 c.if-g-eq0.false))
