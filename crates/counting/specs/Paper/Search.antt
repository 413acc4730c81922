-- Searching below a bound.
--   any_below t k    == whether the test t passes at some place below k
--   first t k        == the first place below k at which t passes, else k
--   FirstAt P k x    == x is the first place below k at which P holds
-- Assumes nothing.
use Rattle.std.specs.Prelude.{ℕ, zero, suc, ◌<◌, Bool, false, cond, ◌||◌}

-- whether a place below k passes the test
unfoldable pub any_below : (ℕ → Bool) → ℕ → Bool
any_below t zero = false
any_below t (suc k) = any_below t k || t k

-- the first place below k that passes the test, else k
unfoldable pub first : (ℕ → Bool) → ℕ → ℕ
first t zero = 0
first t (suc k) = cond (any_below t k) (first t k) (cond (t k) k (suc k))

-- the first place below k at which a statement holds
pub record FirstAt (P : ℕ → Type 0) (k x : ℕ) : Type 0 where
  pub below : x < k
  pub here : P x
  pub before : (y : ℕ) → y < x → P y → ⊥
