-- The votes on each bit by the rows of its column.
--   column_votes x n p j   == the sum of the parities p at the rows of column j in the index x
--   FewRows x n            == no column of the index has more rows than a byte counts
-- Assumes nothing.
use Rattle.std.specs.Prelude.{ℕ, ◌+◌, ◌-◌, ◌≤◌, ◌<◌, List}
use Rattle.counting.specs.Places.{at}
use Rattle.syndrome.specs.Places.{ones_at}

unfoldable pub column_votes : List ℕ → ℕ → (ℕ → ℕ) → ℕ → ℕ
column_votes x n p j = ones_at x (n + 1 + at x j) (at x (j + 1) - at x j) p

unfoldable pub FewRows : List ℕ → ℕ → Type 0
FewRows x n = (j : ℕ) → j < n → at x (j + 1) - at x j ≤ 255
