-- The plain reading of the matrix check: which verdict a matrix has, in statements and not in tests.
--   Sizes, Rows, Accepted   == what an accepted matrix is
--   BadEntry, BadWeight, Overlap   == what refusals 3, 4 and 5 are given for at a place
--   Least H j   == column j of the matrix weighs gamma
--   Never P k   == P holds at no place below k
--   Reads H v   == v is the verdict that the matrix H is given by document 01 and card 2 of document 02
-- proofs/PlainCheck.antt shows that `check_of H` is that verdict and no other is. Assumes nothing.
use Rattle.std.specs.Prelude.{◌≡◌, ◌⊎◌, ℕ, suc, ◌*◌, ◌-◌, ◌%◌, ◌≤◌, ◌<◌, length, get_or}
use Rattle.counting.specs.Paper.Search.{FirstAt}
use Rattle.answers.specs.Paper.Answers.{Verdict, accepted, refused}
use Rattle.matrix.specs.Paper.Code.{Matrix, entry, weight, common}

-- "Ranges"
pub record Sizes (H : Matrix) : Type 0 where
  pub n_least : 2 ≤ H.n
  pub n_most : H.n ≤ 1023
  pub m_least : 1 ≤ H.m
  pub m_most : H.m ≤ 1023
  pub rho_least : 2 ≤ H.rho
  pub rho_most : H.rho ≤ 32
  pub gamma_least : 1 ≤ H.gamma
  pub gamma_most : H.gamma ≤ 32
  pub product : H.n * H.gamma ≤ H.m * H.rho

-- refusal 3: "an entry not below n, or not above the one before it in its row"
abbrev pub BadEntry : Matrix → ℕ → Type 0
BadEntry H p = (H.n ≤ get_or H.list p 0) ⊎ ((0 < p % H.rho) × (get_or H.list p 0 ≤ get_or H.list (p - 1) 0))

-- refusal 4: "a column outside γ to 32"
abbrev pub BadWeight : Matrix → ℕ → Type 0
BadWeight H j = (weight H j < H.gamma) ⊎ (32 < weight H j)

-- a column that weighs γ: refusal 4 has "place n when no column weighs γ"
abbrev pub Least : Matrix → ℕ → Type 0
Least H j = weight H j ≡ H.gamma

-- refusal 5: a later row shares two columns or more with row i
abbrev pub Overlap : Matrix → ℕ → Type 0
Overlap H i = (i' : ℕ) × (i < i') × (i' < H.m) × (2 ≤ common H i i')

-- no place below k at which P holds
abbrev pub Never : (ℕ → Type 0) → ℕ → Type 0
Never P k = (x : ℕ) → x < k → P x → ⊥

-- rows of ascending column numbers below n, no two different ones with two columns in common
pub record Rows (H : Matrix) : Type 0 where
  pub whole : length H.list ≡ H.m * H.rho
  pub below : (i k : ℕ) → i < H.m → k < H.rho → entry H i k < H.n
  pub ascending : (i k : ℕ) → i < H.m → suc k < H.rho → entry H i k < entry H i (suc k)
  pub apart : (i i' : ℕ) → i < i' → i' < H.m → common H i i' ≤ 1

-- "A matrix is accepted when none of the refusals 1 to 5 applies to it"
pub record Accepted (H : Matrix) : Type 0 where
  pub sizes : Sizes H
  pub rows : Rows H
  pub weights : (j : ℕ) → j < H.n → (H.gamma ≤ weight H j) × (weight H j ≤ 32)
  pub least : (j : ℕ) × (j < H.n) × Least H j

-- the verdict: each refusal where it is the first that applies, its place the first such
pub data Reads (H : Matrix) : Verdict → Type 0 where
  sizes_out : (Sizes H → ⊥) → Reads H (refused 1 0)
  length_wrong : Sizes H → (length H.list ≡ H.m * H.rho → ⊥) → Reads H (refused 2 0)
  entry_bad : {x : ℕ} → Sizes H → length H.list ≡ H.m * H.rho → FirstAt (BadEntry H) (length H.list) x → Reads H (refused 3 x)
  weight_bad : {x : ℕ} → Sizes H → length H.list ≡ H.m * H.rho → Never (BadEntry H) (length H.list) → FirstAt (BadWeight H) H.n x
      → Reads H (refused 4 x)
  weight_none : Sizes H → length H.list ≡ H.m * H.rho → Never (BadEntry H) (length H.list) → Never (BadWeight H) H.n
      → Never (Least H) H.n → Reads H (refused 4 H.n)
  rows_overlap : {x : ℕ} → Sizes H → length H.list ≡ H.m * H.rho → Never (BadEntry H) (length H.list) → Never (BadWeight H) H.n
      → (j : ℕ) × (j < H.n) × Least H j → FirstAt (Overlap H) H.m x → Reads H (refused 5 x)
  fine : Accepted H → Reads H accepted
