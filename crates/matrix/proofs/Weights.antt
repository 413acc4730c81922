-- Laws of the columns' weights in an accepted matrix: all that other crates know of them.
--   weight-least   == no column of the matrix has fewer than gamma ones
--   weight-small   == no column has more than 32, also none that the matrix does not have
--   weight-equal   == where m * rho = n * gamma every column of the matrix has gamma ones
--   row-total      == a row has rho ones
--   weights-total  == all columns together have m * rho ones
-- Assumes nothing.
use mathlib.Core.Path.{◌≡◌, sym, ◌∙◌}
use Prim.Native.Nat.{ℕ, ◌+◌, ◌-◌, ◌*◌, ◌≤◌, ◌<◌}
use native.Mathlib.Decide.{dec_lt}
use native.Mathlib.Omega.{arith}
use Rattle.counting.specs.Paper.Sum.{sum_below}
use Rattle.counting.proofs.Sums.{sum-add, sum-cong, sum-swap, sum-const, sum-term}
use Rattle.matrix.specs.Paper.Code.{Matrix, has, weight}
use Rattle.matrix.specs.Paper.PlainCheck.{Rows, Accepted}
use Rattle.matrix.proofs.Rows.{row-sum, weight-outside}

module _ (H : Matrix) (r : Rows H) where
  -- a row has rho ones
  pub row-total : (i : ℕ) → i < H.m → sum_below H.n (λ j. has H i j) ≡ H.rho
  row-total i l =
      sum-cong H.n {f = λ j. has H i j} {g = λ j. has H i j * 1} (λ j h. omega arith)
      ∙ sym (row-sum H r i l (λ _. 1))
      ∙ sum-const H.rho 1
      ∙ omega arith

  -- all columns together have m * rho ones
  pub weights-total : sum_below H.n (weight H) ≡ H.m * H.rho
  unfolding weight
  weights-total = sum-swap H.n H.m (λ j i. has H i j) ∙ sum-cong H.m row-total ∙ sum-const H.m H.rho

-- numbers that are all at least g, and together n times g, are all g
all-least : (n : ℕ) (f : ℕ → ℕ) (g : ℕ) → ((j : ℕ) → j < n → g ≤ f j) → sum_below n f ≡ n * g → (j : ℕ) → j < n → f j ≡ g
all-least n f g least e j l =
    let parts : sum_below n f ≡ sum_below n (λ _. g) + sum_below n (λ i. f i - g)
    = sum-cong n {f = f} {g = λ i. g + (f i - g)} (λ i h. omega (arith, least i h)) ∙ sum-add n (λ _. g) (λ i. f i - g) in
    let none : sum_below n (λ i. f i - g) ≡ 0 = omega (arith, parts, e, sum-const n g) in
    omega (arith, none, least j l, sum-term n (λ i. f i - g) j l)

module _ (H : Matrix) (a : Accepted H) where
  -- no column of the matrix has fewer than gamma ones
  pub weight-least : (j : ℕ) → j < H.n → H.gamma ≤ weight H j
  weight-least j l = (a.weights j l).0

  -- no column has more than 32 ones, also none that the matrix does not have
  pub weight-small : (j : ℕ) → weight H j ≤ 32
  weight-small j =
      elim (dec_lt j H.n)
      [ yes l ↦ (a.weights j l).1 | no g ↦ omega (arith, weight-outside H a.rows j (omega arith)) ]

  -- where the sizes leave no one over, every column of the matrix has gamma ones
  pub weight-equal : H.m * H.rho ≡ H.n * H.gamma → (j : ℕ) → j < H.n → weight H j ≡ H.gamma
  weight-equal e j l = all-least H.n (weight H) H.gamma weight-least (weights-total H a.rows ∙ e) j l
