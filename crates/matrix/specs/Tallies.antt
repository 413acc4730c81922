-- Tallies: an array that counts, for each column, how often it came; and one that has the columns' weights.
--   Tally f k v      == v has for each column how many of f 0 .. f (k - 1) it is
--   mark_at H i v k  == what v has for the k-th column of row i
--   Weighed H w      == w has the weight of each column
-- Assumes nothing.
use Rattle.std.specs.Prelude.{◌≡◌, List, ℕ, ◌<◌, length, get_or}
use Rattle.counting.specs.Paper.Sum.{sum_below, same}
use Rattle.matrix.specs.Paper.Code.{Matrix, entry, weight}

-- the array of the columns, each with how often it came
pub record Tally (f : ℕ → ℕ) (k : ℕ) (v : List ℕ) : Type 0 where
  pub long : length v ≡ 1023
  pub each : (j : ℕ) → j < 1023 → get_or v j 0 ≡ sum_below k (λ x. same (f x) j)

-- the number counted for the k-th column of row i
unfoldable pub mark_at : Matrix → ℕ → List ℕ → ℕ → ℕ
mark_at H i v k = get_or v (entry H i k) 0

-- the weight of each column
abbrev pub Weighed : Matrix → List ℕ → Type 0
Weighed H w = (j : ℕ) → j < H.n → get_or w j 0 ≡ weight H j
