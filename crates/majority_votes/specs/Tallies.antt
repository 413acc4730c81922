-- What the votes' array holds. (Document 01, "One-step voting".)
--   of_rows l rho rows t j    == how often the first t of the listed rows have column j
--   ListedRows l rho rows t   == these rows are parts of l
--   Addable f v               == f more at every place of the array v fits its bytes
--   More f old new            == the array with f more at every place
--   Takeable f v              == every place of the array v has f or more
--   Fewer f old new           == the array with f fewer at every place
--   Tallied H z v f           == v is the votes on the word z, and f the number of failing checks
-- Assumes nothing.
use Rattle.std.specs.Prelude.{◌≡◌, List, ℕ, ◌+◌, ◌*◌, ◌<◌, ◌≤◌, length}
use Rattle.counting.specs.Paper.Sum.{sum_below}
use Rattle.counting.specs.Places.{at, among}
use Rattle.matrix.specs.Paper.Code.{Matrix, failing}
use Rattle.syndrome.specs.Places.{Part}
use Rattle.majority_logic.specs.Paper.Votes.{votes}

-- a column counted in the listed rows
unfoldable pub of_rows : List ℕ → ℕ → List ℕ → ℕ → ℕ → ℕ
of_rows l rho rows t j = sum_below t (λ q. among l (at rows q * rho) rho j)

-- the listed rows
pub record ListedRows (l : List ℕ) (rho : ℕ) (rows : List ℕ) (t : ℕ) : Type 0 where
  pub few : t ≤ 1023
  pub below : (q : ℕ) → q < t → at rows q < 1023
  pub part : (q : ℕ) → q < t → Part l (at rows q * rho) rho

-- an array of 1,023 bytes to which f can be added
pub record Addable (f : ℕ → ℕ) (v : List ℕ) : Type 0 where
  pub long : length v ≡ 1023
  pub fits : (j : ℕ) → at v j + f j ≤ 255

-- f is added
pub record More (f : ℕ → ℕ) (old new : List ℕ) : Type 0 where
  pub long : length new ≡ 1023
  pub each : (j : ℕ) → at new j ≡ at old j + f j

-- an array of 1,023 bytes from which f can be taken
pub record Takeable (f : ℕ → ℕ) (v : List ℕ) : Type 0 where
  pub long : length v ≡ 1023
  pub there : (j : ℕ) → f j ≤ at v j

-- f is taken
pub record Fewer (f : ℕ → ℕ) (old new : List ℕ) : Type 0 where
  pub long : length new ≡ 1023
  pub each : (j : ℕ) → at new j + f j ≡ at old j

-- the votes of the failing checks, and how many these are
pub record Tallied (H : Matrix) (z : ℕ → ℕ) (v : List ℕ) (f : ℕ) : Type 0 where
  pub long : length v ≡ 1023
  pub each : (j : ℕ) → at v j ≡ votes H z j
  pub count : f ≡ failing H z
