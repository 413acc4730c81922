-- The plain reading of the index: what its numbers say, and not how they are found.
--   row_at H x j q   == the q-th row number of column j, read by its starting place
--   IsIndex H x     == x is an index of the matrix H
-- proofs/PlainIndex.antt shows that of an accepted matrix `index_of H` is one, and that there is no other. Assumes nothing.
use Rattle.std.specs.Prelude.{ℕ, suc, ◌+◌, ◌*◌, ◌<◌, ◌≡◌, List, length, get_or}
use Rattle.matrix.specs.Paper.Code.{Matrix, has, weight}

-- the row numbers stand behind the n + 1 starting places
abbrev pub row_at : Matrix → List ℕ → ℕ → ℕ → ℕ
row_at H x j q = get_or x (suc H.n + (get_or x j 0 + q)) 0

-- starting places from 0 to m × rho, each column's weight apart; the row numbers of a column ascend, and these rows have it
pub record IsIndex (H : Matrix) (x : List ℕ) : Type 0 where
  pub whole : length x ≡ suc H.n + H.m * H.rho
  pub begins : get_or x 0 0 ≡ 0
  pub ends : get_or x H.n 0 ≡ H.m * H.rho
  pub next : (j : ℕ) → j < H.n → get_or x (suc j) 0 ≡ get_or x j 0 + weight H j
  pub ascending : (j q : ℕ) → j < H.n → suc q < weight H j → row_at H x j q < row_at H x j (suc q)
  pub row : (j q : ℕ) → j < H.n → q < weight H j → row_at H x j q < H.m
  pub own : (j q : ℕ) → j < H.n → q < weight H j → has H (row_at H x j q) j ≡ 1
