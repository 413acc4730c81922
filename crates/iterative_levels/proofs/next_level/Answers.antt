-- `iterative_levels::next_level` meets its contract: what is added and what is taken away are chosen by the bit. Assumes nothing.
use mathlib.Core.Path.{ap₂, ◌∙◌}
use Prim.Native.Nat.{ℕ, min, ◌+◌, ◌-◌, ◌*◌}
use native.Mathlib.Omega.{arith}
use lib.Dec.{eqb}
use Rattle.iterative_levels.specs.Levels.{next_level}
use Rattle.iterative_levels.proofs.Levels.{chosen-most, next-chosen}
use Rattle.iterative_levels.proofs.next_level.Goals as goal

pub shifted-requires : goal.shifted-requires
shifted-requires c =
    let a = c.args in
    omega (arith, c.by_bit.ensures, chosen-most (eqb a.z 0) (2 * a.v) a.weight 510 (omega arith) (omega arith))

pub returns : goal.returns
unfolding next_level
returns c =
    let a = c.args in
    c.shifted.ensures
    ∙ ap₂ (λ (p m : ℕ). min a.ceiling (a.x + p - m)) c.by_bit.ensures c.by_bit-2.ensures
    ∙ next-chosen (eqb a.z 0) a.ceiling a.x (2 * a.v) a.weight
