-- Laws of the smallest of some numbers.
--   least-le    == it is at most each of them
--   least-top   == and at most the bound
--   least_at    == where the bound is no smaller than they are it is one of them
--   least-is    == a number that is one of them and at most each of them is the smallest
-- Assumes nothing.
use mathlib.Core.Path.{◌≡◌, ap}
use Prim.Native.Nat.{ℕ, zero, suc, ◌≤◌, ◌<◌}
use native.Mathlib.Nat.{not-suc-le-zero}
use native.Mathlib.Decide.{ℕ_discrete, dec_lt}
use native.Mathlib.Omega.{arith}
use Rattle.counting.specs.Paper.Sum.{least}

-- at most each of them
pub least-le : (b k : ℕ) (f : ℕ → ℕ) (c : ℕ) → c < k → least b k f ≤ f c
unfolding least
least-le b zero f c l = absurd (not-suc-le-zero l)
least-le b (suc k) f c l =
    elim (ℕ_discrete c k) [ yes e ↦ omega (arith, ap f e) | no ne ↦ omega (arith, least-le b k f c (omega arith)) ]

-- at most the bound
pub least-top : (b k : ℕ) (f : ℕ → ℕ) → least b k f ≤ b
unfolding least
least-top b zero f = omega arith
least-top b (suc k) f = omega (arith, least-top b k f)

-- one of them, where the bound is no smaller than they are
pub least_at : (b k : ℕ) (f : ℕ → ℕ) → 0 < k → ((c : ℕ) → c < k → f c ≤ b) → (c : ℕ) × (c < k) × (f c ≡ least b k f)
unfolding least
least_at b zero f p h = absurd (not-suc-le-zero p)
least_at b (suc zero) f p h = (0, omega arith, omega (arith, h 0 (omega arith)))
least_at b (suc (suc k)) f p h =
    let r : (c : ℕ) × (c < suc k) × (f c ≡ least b (suc k) f) = least_at b (suc k) f (omega arith) (λ c l. h c (omega arith)) in
    elim (dec_lt (least b (suc k) f) (f (suc k)))
    [ yes l ↦ (r.0, omega (arith, r.1), omega (arith, r.2)) | no n ↦ (suc k, omega arith, omega arith) ]

-- what is at most each of them and the bound is at most the smallest
le-least : (b k : ℕ) (f : ℕ → ℕ) (x : ℕ) → x ≤ b → ((c : ℕ) → c < k → x ≤ f c) → x ≤ least b k f
unfolding least
le-least b zero f x t h = t
le-least b (suc k) f x t h = omega (arith, le-least b k f x t (λ c l. h c (omega arith)), h k (omega arith))

-- a number that is one of them and at most each of them
pub least-is : (b k : ℕ) (f : ℕ → ℕ) (x : ℕ) → ((c : ℕ) → c < k → x ≤ f c) → (c : ℕ) × (c < k) × (f c ≡ x)
    → ((c : ℕ) → c < k → f c ≤ b) → least b k f ≡ x
least-is b k f x low r h =
    let top : x ≤ b = omega (arith, r.2, h r.0 r.1) in
    omega (arith, r.2, least-le b k f r.0 r.1, le-least b k f x top low)
