-- `byte_numbers::number32` meets its contract. Assumes nothing.
use mathlib.Core.Path.{◌≡◌, ap}
use mathlib.Core.List.{List}
use Prim.Native.Nat.{ℕ, ◌+◌, ◌*◌}
use native.Mathlib.Omega.{arith}
use lib.ListN.{get_or}
use Rattle.byte_numbers.specs.Paper.Numbers.{number16, number32}
use Rattle.byte_numbers.proofs.number32.Goals as goal

-- the number by its four bytes
four_bytes : (bs : List ℕ) (p : ℕ)
    → number32 bs p ≡ get_or bs p 0 + 256 * get_or bs (p + 1) 0 + 65536 * get_or bs (p + 2) 0 + 16777216 * get_or bs (p + 3) 0
unfolding number32 number16
four_bytes bs p =
    let e : p + 2 + 1 ≡ p + 3 = omega arith in
    omega (arith, ap (λ (k : ℕ). get_or bs k 0) e)

pub returns : goal.returns
returns c =
    let a = c.args in
    omega (
      arith,
      four_bytes a.bytes.now a.p,
    )
