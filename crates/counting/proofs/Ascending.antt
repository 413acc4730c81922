-- Laws of numbers that ascend from place to place.
--   ascending-lt     == a later place has the larger number
--   ascending-once   == no number comes twice
-- Assumes nothing.
use mathlib.Core.Path.{ap}
use Prim.Native.Nat.{ℕ, zero, suc, ◌≤◌, ◌<◌}
use native.Mathlib.Nat.{not-suc-le-zero}
use native.Mathlib.Decide.{ℕ_discrete}
use native.Mathlib.Omega.{arith}
use Rattle.counting.specs.Paper.Sum.{sum_below, same}
use Rattle.counting.proofs.Sums.{sum_one, same-le, same-pos}

module _ (f : ℕ → ℕ) (k : ℕ) (up : (x : ℕ) → suc x < k → f x < f (suc x)) where
  -- a later place has the larger number
  pub ascending-lt : (a b : ℕ) → a < b → b < k → f a < f b
  ascending-lt a zero l h = absurd (not-suc-le-zero l)
  ascending-lt a (suc b) l h =
      elim (ℕ_discrete a b)
      [ yes e ↦ omega (arith, ap f e, up b h) | no ne ↦ omega (arith, ascending-lt a b (omega arith) (omega arith), up b h) ]

  -- no number comes twice
  pub ascending-once : (j : ℕ) → sum_below k (λ x. same (f x) j) ≤ 1
  ascending-once j =
      sum_one k (λ x. same (f x) j) (λ x h. same-le (f x) j)
      (λ a b l h p q. omega (arith, same-pos (f a) j p, same-pos (f b) j q, ascending-lt a b l h))
