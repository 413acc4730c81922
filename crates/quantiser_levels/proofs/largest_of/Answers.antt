-- `quantiser_levels::largest_of` meets its contract: the shift loses nothing. Assumes nothing.
use mathlib.Core.Path.{◌≡◌, ap, ◌∙◌}
use Prim.Native.Nat.{ℕ, ◌-◌, ◌*◌, ◌^◌, ◌%◌}
use native.Mathlib.Nat.{one-mul}
use native.Mathlib.Omega.{arith}
use lib.Dec.{lit<}
use lib.Pow.{shl_exact, pow_pos}
use Rattle.quantiser_levels.proofs.largest_of.Goals as goal

pub overflow_sub-result-2 : goal.overflow_sub-result-2
overflow_sub-result-2 c =
    let power : 1 * 2 ^ (c.args.bits - 1) % 2 ^ 16 ≡ 2 ^ (c.args.bits - 1) = shl_exact 1 (c.args.bits - 1) 16 (lit< tt) (omega arith) ∙ one-mul _ in
    omega (arith, power, pow_pos (c.args.bits - 1))

pub returns : goal.returns
returns c =
    let power : 1 * 2 ^ (c.args.bits - 1) % 2 ^ 16 ≡ 2 ^ (c.args.bits - 1) = shl_exact 1 (c.args.bits - 1) 16 (lit< tt) (omega arith) ∙ one-mul _ in
    ap (λ (n : ℕ). n - 1) (power)
