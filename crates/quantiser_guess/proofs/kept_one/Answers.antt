-- `quantiser_guess::kept_one` meets its contract. Assumes nothing.
use mathlib.Core.Path.{sym, ap}
use mathlib.Core.Bool.{Bool, cond}
use Prim.Native.Nat.{◌+◌, ◌-◌}
use borrow.Author.Tests.{lt-ltb, le-ltb}
use Rattle.quantiser_guess.specs.Guess.{kept_by}
use Rattle.quantiser_guess.proofs.kept_one.Goals as goal

pub returns-then-u-lt2147483648 : goal.returns-then-u-lt2147483648
unfolding kept_by
returns-then-u-lt2147483648 c =
    let a = c.args in
    sym (ap (λ (b : Bool). cond b (a.middle + a.g) (a.middle - a.g)) (lt-ltb a.u 2147483648 c.if-u-lt2147483648.true))

pub returns-else-u-lt2147483648 : goal.returns-else-u-lt2147483648
unfolding kept_by
returns-else-u-lt2147483648 c =
    let a = c.args in
    sym (ap (λ (b : Bool). cond b (a.middle + a.g) (a.middle - a.g)) (le-ltb a.u 2147483648 c.if-u-lt2147483648.false))
