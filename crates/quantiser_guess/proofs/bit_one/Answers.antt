-- `quantiser_guess::bit_one` meets its contract. Assumes nothing.
use mathlib.Core.Path.{sym, ap}
use mathlib.Core.Bool.{Bool, cond}
use Rattle.quantiser_guess.specs.Guess.{bit_by}
use Rattle.quantiser_guess.proofs.bit_one.Goals as goal

pub returns-then-u : goal.returns-then-u
unfolding bit_by
returns-then-u c = sym (ap (λ (b : Bool). cond b 1 0) c.if-u.true)

pub returns-else-u : goal.returns-else-u
unfolding bit_by
returns-else-u c = sym (ap (λ (b : Bool). cond b 1 0) c.if-u.false)
