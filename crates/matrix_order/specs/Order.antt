-- What is counted to ask whether every row ascends below n.
--   Laid l m rho          == the list is m rows of rho entries: at least one entry, and no more than the largest sizes have
--   descent l p           == 1 where entry p is not above the one before it, else 0
--   row_descent l rho i   == the same of the entry that begins row i
--   not_below l n p       == 1 where entry p is not below n, else 0
-- Assumes nothing.
use Rattle.std.specs.Prelude.{◌≡◌, List, ℕ, ◌*◌, ◌-◌, ◌≤◌, leb, length, get_or}
use Rattle.counting.specs.Paper.Sum.{flag}

-- the list is m rows of rho entries: at least one entry, and no more than the largest sizes have
pub record Laid (l : List ℕ) (m rho : ℕ) : Type 0 where
  pub rows : 1 ≤ m
  pub wide : 1 ≤ rho
  pub whole : length l ≡ m * rho
  pub few : length l ≤ 32736

-- whether entry p is not above the one before it, as a number; the first is held against itself, and counts
unfoldable pub descent : List ℕ → ℕ → ℕ
descent l p = flag (leb (get_or l p 0) (get_or l (p - 1) 0))

-- the same of the entry that begins row i
unfoldable pub row_descent : List ℕ → ℕ → ℕ → ℕ
row_descent l rho i = descent l (i * rho)

-- whether entry p is not below n, as a number
unfoldable pub not_below : List ℕ → ℕ → ℕ → ℕ
not_below l n p = flag (leb n (get_or l p 0))
