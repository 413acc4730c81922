use Rattle.std.proofs.Common.{rules, ◌≡◌, ◌<◌, ℕ, take, sum_by, ◌∙◌}
use native.Mathlib.Omega.{arith}
use Rattle.syndrome_update.proofs.Turns.{total-below, odd-most}
use Rattle.syndrome_update.proofs.count_odd.Goals as goal

pub sum-requires-clause-fits : goal.sum-requires-clause-fits
sum-requires-clause-fits c =
    let p = c.args.parity.now in
    let most : ℕ = c.args.m in
    let few : sum_by (λ (x : ℕ). x) (take most p) < 65536 =
    omega (arith, total-below p most (omega arith), odd-most p c.requires.1 most, c.requires.0) in
    search rules

pub returns : goal.returns
returns c =
    let p = c.args.parity.now in
    let sum : c.sum.result ≡ sum_by (λ (x : ℕ). x) (take c.args.m p) = search rules in
    sum ∙ total-below p c.args.m (omega arith)
