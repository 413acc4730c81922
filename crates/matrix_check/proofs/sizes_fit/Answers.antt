-- `matrix_check::sizes_fit` meets its contract. Assumes nothing.
use mathlib.Core.Bool.{and_assoc}
use native.Mathlib.Nat.{mul-le-mul}
use native.Mathlib.Omega.{arith}
use mathlib.Core.Path.{◌≡◌}
use Rattle.std.proofs.lemmas.Grind.{common_steps}
use Rattle.matrix.specs.Paper.Check.{within, sizes_fit}
use Rattle.matrix_check.proofs.sizes_fit.Goals as goal

pub overflow_mul-ones_by_row : goal.overflow_mul-ones_by_row
overflow_mul-ones_by_row c =
    let s = c.args.shape in
    omega (arith, mul-le-mul {n₁ = s.m} {m₁ = s.rho} {n₂ = 65535} {m₂ = 65535} (omega arith) (omega arith))

pub overflow_mul-ones_by_column : goal.overflow_mul-ones_by_column
overflow_mul-ones_by_column c =
    let s = c.args.shape in
    omega (arith, mul-le-mul {n₁ = s.n} {m₁ = s.gamma} {n₂ = 65535} {m₂ = 65535} (omega arith) (omega arith))

pub returns : goal.returns
unfolding sizes_fit
returns c =
    let s = c.args.shape in
    let n : c.contains.result ≡ within 2 s.n 1023 = grind (arith, common_steps) in
    let m : c.contains-2.result ≡ within 1 s.m 1023 = grind (arith, common_steps) in
    let rho : c.contains-3.result ≡ within 2 s.rho 32 = grind (arith, common_steps) in
    let gamma : c.contains-4.result ≡ within 1 s.gamma 32 = grind (arith, common_steps) in
    simp (n, m, rho, gamma, and_assoc)
