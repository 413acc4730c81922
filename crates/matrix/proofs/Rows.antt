-- Laws of rows and columns.
--   weight-flat      == a column's weight counts it in the list
--   common-sym       == two rows share the same columns, whichever is named first
--   clean_at         == no check of a codeword fails
--   fails-bit        == a check fails or it does not
--   failing-le       == no more checks fail than there are
--   few-entries      == there are no more entries than the largest sizes have
--   stands           == the entries of a row stand in the list
--   in_list          == entry k of row i stands in the list
--   ascends          == a later entry of a row has the larger column number
--   has-le           == a row has a column once or not at all
--   row-sum          == a sum over the entries of a row, as a sum over the columns
--   fails-cong       == a check reads the bits below n alone
--   failing-cong     == so does the count of failing checks
--   has-outside      == no row has a column that the matrix does not have
--   weight-outside   == such a column has weight 0
-- Assumes nothing.
use mathlib.Core.Path.{◌≡◌, sym, ap, ◌∙◌}
use Prim.Native.Nat.{ℕ, ◌+◌, ◌*◌, ◌%◌, ◌≤◌, ◌<◌}
use native.Mathlib.Nat.{mul-le-mul}
use native.Mathlib.Omega.{arith}
use lib.Arith.{digits_lt}
use lib.ListN.{length, get_or}
use Rattle.counting.specs.Paper.Sum.{sum_below, same}
use Rattle.counting.proofs.Sums.{sum-zero, sum_bound, same-ne, sum-cong, sum-term, sum-pick, sum-flat, sum-swap, sum-mul-right, same-sym}
use Rattle.counting.proofs.Ascending.{ascending-lt, ascending-once}
use Rattle.matrix.specs.Paper.Code.{Matrix, entry, has, weight, common, fails, failing}
use Rattle.matrix.specs.Paper.PlainCheck.{Rows, Sizes}

-- a column's weight counts it in the list
pub weight-flat : (H : Matrix) (j : ℕ) → weight H j ≡ sum_below (H.m * H.rho) (λ p. same (get_or H.list p 0) j)
unfolding weight has entry
weight-flat H j = sym (sum-flat H.m H.rho (λ p. same (get_or H.list p 0) j))

-- two rows share the same columns, whichever is named first
pub common-sym : (H : Matrix) (i i' : ℕ) → common H i i' ≡ common H i' i
unfolding common has
common-sym H i i' =
    sum-swap H.rho H.rho (λ k q. same (entry H i' q) (entry H i k))
    ∙ sum-cong H.rho (λ q h. sum-cong H.rho (λ k l. same-sym (entry H i' q) (entry H i k)))

-- no check of a codeword fails
pub clean_at : (H : Matrix) (c : ℕ → ℕ) → failing H c ≡ 0 → (i : ℕ) → i < H.m → fails H c i ≡ 0
unfolding failing
clean_at H c e i h = omega (arith, sum-term H.m (fails H c) i h)

-- a check fails or it does not
pub fails-bit : (H : Matrix) (z : ℕ → ℕ) (i : ℕ) → fails H z i < 2
unfolding fails
fails-bit H z i = omega arith

-- no more checks fail than there are
pub failing-le : (H : Matrix) (z : ℕ → ℕ) → failing H z ≤ H.m
unfolding failing
failing-le H z = omega (arith, sum_bound H.m 1 {f = fails H z} (λ i h. omega (arith, fails-bit H z i)))

-- there are no more entries than the largest sizes have
pub few-entries : (H : Matrix) → Sizes H → H.m * H.rho ≤ 32736
few-entries H s = mul-le-mul {n₁ = H.m} {m₁ = H.rho} {n₂ = 1023} {m₂ = 32} s.m_most s.rho_most

-- where the entries of a row stand
pub stands : (H : Matrix) → length H.list ≡ H.m * H.rho → (i k : ℕ) → i < H.m → k < H.rho → i * H.rho + k < length H.list
stands H whole i k l h = omega (arith, whole, digits_lt {q = i} {m = H.m} {r = k} {c = H.rho} l h)

module _ (H : Matrix) (r : Rows H) where
  -- entry k of row i stands in the list
  pub in_list : (i k : ℕ) → i < H.m → k < H.rho → i * H.rho + k < length H.list
  in_list = stands H r.whole

  -- a later entry of a row has the larger column number
  pub ascends : (i k k' : ℕ) → i < H.m → k < k' → k' < H.rho → entry H i k < entry H i k'
  ascends i k k' l lt h = ascending-lt (entry H i) H.rho (λ x. r.ascending i x l) k k' lt h

  -- a row has a column once or not at all
  pub has-le : (i j : ℕ) → i < H.m → has H i j ≤ 1
  unfolding has
  has-le i j l = ascending-once (entry H i) H.rho (λ x. r.ascending i x l) j

  -- a sum over the entries of a row, as a sum over the columns
  pub row-sum : (i : ℕ) → i < H.m → (g : ℕ → ℕ) → sum_below H.rho (λ k. g (entry H i k)) ≡ sum_below H.n (λ j. has H i j * g j)
  unfolding has
  row-sum i l g =
      sum-cong H.rho (λ k h. sym (sum-pick H.n g (entry H i k) (r.below i k l h)))
      ∙ sum-swap H.rho H.n (λ k j. same (entry H i k) j * g j)
      ∙ sum-cong H.n (λ j h. sum-mul-right H.rho (g j) (λ k. same (entry H i k) j))

  -- a check reads the bits below n alone
  pub fails-cong : (z c : ℕ → ℕ) → ((j : ℕ) → j < H.n → z j ≡ c j) → (i : ℕ) → i < H.m → fails H z i ≡ fails H c i
  unfolding fails
  fails-cong z c e i h = ap (λ (x : ℕ). x % 2) (sum-cong H.rho (λ k l. e (entry H i k) (r.below i k h l)))

  -- so does the count of failing checks
  pub failing-cong : (z c : ℕ → ℕ) → ((j : ℕ) → j < H.n → z j ≡ c j) → failing H z ≡ failing H c
  unfolding failing
  failing-cong z c e = sum-cong H.m (λ i h. fails-cong z c e i h)

  -- no row has a column that the matrix does not have
  pub has-outside : (i j : ℕ) → i < H.m → H.n ≤ j → has H i j ≡ 0
  unfolding has
  has-outside i j h l = sum-zero H.rho (λ k g. same-ne (entry H i k) j (λ e. omega (arith, r.below i k h g)))

  -- so its weight is 0
  pub weight-outside : (j : ℕ) → H.n ≤ j → weight H j ≡ 0
  unfolding weight
  weight-outside j l = sum-zero H.m (λ i h. has-outside i j h l)
