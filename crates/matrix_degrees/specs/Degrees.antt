-- The columns' weights in an array.
--   gap x j               == how far number j of x is from the next
--   always x              == x for every column
--   came l p j            == how often j stands among the first p numbers of l
--   Counted l p old new   == the cells old with each of the first p numbers of l counted in
-- Assumes nothing.
use Rattle.std.specs.Prelude.{◌≡◌, List, ℕ, ◌+◌, ◌-◌, length}
use Rattle.counting.specs.Paper.Sum.{sum_below, same}
use Rattle.counting.specs.Places.{at}

-- what lies between a number of x and the next
unfoldable pub gap : List ℕ → ℕ → ℕ
gap x j = at x (j + 1) - at x j

-- the same for every column
unfoldable pub always : ℕ → ℕ → ℕ
always x j = x

-- how often j stands among the first p numbers of l
unfoldable pub came : List ℕ → ℕ → ℕ → ℕ
came l p j = sum_below p (λ x. same (at l x) j)

-- each of the first p numbers of l is counted in its cell
pub record Counted (l : List ℕ) (p : ℕ) (old new : List ℕ) : Type 0 where
  pub long : length new ≡ length old
  pub each : (j : ℕ) → at new j ≡ at old j + came l p j
