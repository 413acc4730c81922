-- For how many wrong bits the largest limit, 255, leaves the rounds of the rule for iterative voting.
--   enough, needed   == 255 rounds suffice exactly where L is below 255 strides
--   fine-limits      == at b = 9 to 12: `FineLimits`
-- Assumes nothing.
use Prim.Native.Nat.{ℕ, ◌+◌, ◌*◌, ◌/◌, ◌≤◌, ◌<◌}
use native.Mathlib.Nat.{div-lt_iff_lt-mul}
use native.Mathlib.Omega.{arith}
use borrow.Author.Tests.{ne_eqb}
use Rattle.quantiser_levels.specs.Paper.Samples.{largest}
use Rattle.iterative_rule.specs.Paper.Claims.{stride, rounds_for}
use Rattle.worked_examples.specs.Paper.Bounds.{FineLimits}

module _ (L gamma w : ℕ) (some : 0 < w) where
  positive : 0 < stride gamma w
  positive = omega arith

  -- 255 rounds suffice where L is below 255 strides
  enough : L < 255 * stride gamma w → rounds_for L gamma w ≤ 255
  enough h =
      let q : L / stride gamma w < 255 = (div-lt_iff_lt-mul positive).1 h in
      rw (ne_eqb w 0 (λ e. omega arith)) (omega arith)

  -- and only there
  needed : rounds_for L gamma w ≤ 255 → L < 255 * stride gamma w
  needed h =
      let r : L / stride gamma w + 1 ≤ 255 = rw (ne_eqb w 0 (λ e. omega arith)) at h in
      (div-lt_iff_lt-mul positive).0 (omega arith)

-- at b = 9 to 12
pub fine-limits : (gamma w : ℕ) → 0 < w → 2 * w ≤ gamma → FineLimits gamma w
fine-limits gamma w some half =
    record {
      nine = enough (largest 9) gamma w some (omega arith);
      ten = λ h. enough (largest 10) gamma w some (omega arith);
      ten_only = λ h. omega (arith, needed (largest 10) gamma w some h);
      eleven = λ h. enough (largest 11) gamma w some (omega arith);
      eleven_only = λ h. omega (arith, needed (largest 11) gamma w some h);
      twelve = λ h. enough (largest 12) gamma w some (omega arith);
      twelve_only = λ h. omega (arith, needed (largest 12) gamma w some h);
    }
