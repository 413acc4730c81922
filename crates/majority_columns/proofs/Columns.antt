-- Laws of votes counted column by column.
--   ones_none, ones_step   == no row of a column is looked at yet, and one more is
--   ones-most              == no more rows are odd than are looked at
--   votes-is               == the votes as they are counted
--   few-at                 == a column has few rows
--   few-rows               == the columns of an accepted matrix have few rows
--   column-tallied         == over a cleared array they are the tally of the votes
-- Assumes nothing.
use mathlib.Core.Path.{◌≡◌, refl, sym, ap, ◌∙◌}
use mathlib.Core.List.{List}
use Prim.Native.Nat.{ℕ, suc, ◌+◌, ◌*◌, ◌-◌, ◌≤◌, ◌<◌}
use native.Mathlib.Nat.{zero-mul}
use native.Mathlib.Numerals.{add-one}
use native.Mathlib.Decide.{dec_lt}
use native.Mathlib.Omega.{arith}
use lib.ListN.{replicate, length-replicate}
use Rattle.counting.specs.Paper.Sum.{sum_below, same}
use Rattle.counting.specs.Paper.Lists.{listed, over}
use Rattle.counting.specs.Places.{at, among}
use Rattle.counting.proofs.Sums.{sum-cong, sum-zero, sum_bound, sum-swap, sum-pick, sum-mul-right}
use Rattle.counting.proofs.Writes.{zeros, over-long, over-at, over-rest}
use Rattle.matrix.specs.Paper.Code.{Matrix, has, fails, failing}
use Rattle.matrix.specs.Paper.PlainCheck.{Accepted}
use Rattle.matrix.proofs.Rows.{has-outside}
use Rattle.matrix.proofs.Weights.{weight-small}
use Rattle.matrix_index.specs.Paper.Index.{index_of}
use Rattle.matrix_index.proofs.Columns.{index_below}
use Rattle.syndrome.specs.Places.{ones_at}
use Rattle.syndrome_update.specs.Parities.{Bits, column_rows, Parities}
use Rattle.syndrome_update.proofs.KeptParities.{count-is, column-rows}
use Rattle.majority_logic.specs.Paper.Votes.{votes}
use Rattle.majority_votes.specs.Tallies.{Tallied}
use Rattle.majority_columns.specs.ColumnVotes.{column_votes, FewRows}

-- ---- one column

pub ones_none : (x : List ℕ) (from : ℕ) (p : ℕ → ℕ) → 0 ≡ ones_at x from 0 p
unfolding ones_at sum_below
ones_none x from p = refl

pub ones_step : (x : List ℕ) (from k v : ℕ) (p : ℕ → ℕ) → v ≡ ones_at x from k p → v + p (at x (from + k)) ≡ ones_at x from (k + 1) p
unfolding ones_at sum_below
ones_step x from k v p e = rw (add-one k) (omega (arith, e))

pub ones-most : (x : List ℕ) (from k : ℕ) (p : List ℕ) → Bits p → ones_at x from k (at p) ≤ k
unfolding ones_at
ones-most x from k p b =
    omega (arith, sum_bound k 1 {f = λ q. at p (at x (from + q))} (λ q h. omega (arith, b.bit (at x (from + q)))))

-- the votes as they are counted
pub votes-is : (x : List ℕ) (n j v : ℕ) (p : ℕ → ℕ) → v ≡ ones_at x (n + 1 + at x j) (at x (j + 1) - at x j) p → v ≡ column_votes x n p j
unfolding column_votes
votes-is x n j v p e = e

-- a column has few rows
pub few-at : (x : List ℕ) (n j : ℕ) → FewRows x n → j < n → at x (j + 1) - at x j ≤ 255
unfolding FewRows
few-at x n j f l = f j l

-- ---- all columns of an accepted matrix

-- a sum over numbers below m that stand in a part of a list, as a sum over all numbers
part-sum : (x : List ℕ) (from count m : ℕ) (g : ℕ → ℕ) → ((q : ℕ) → q < count → at x (from + q) < m)
    → sum_below count (λ q. g (at x (from + q))) ≡ sum_below m (λ i. among x from count i * g i)
unfolding among
part-sum x from count m g below =
    sum-cong count (λ q h. sym (sum-pick m g (at x (from + q)) (below q h)))
    ∙ sum-swap count m (λ q i. same (at x (from + q)) i * g i)
    ∙ sum-cong m (λ i h. sum-mul-right count (g i) (λ q. same (at x (from + q)) i))

module _ (H : Matrix) (a : Accepted H) (x : List ℕ) (own : x ≡ index_of H) where
  -- the columns of an accepted matrix have few rows
  pub few-rows : FewRows x H.n
  unfolding FewRows
  few-rows j l = rw own (omega (arith, count-is H a j l, weight-small H a j))

  module _ (z : ℕ → ℕ) (p : List ℕ) (k : Parities H z p) where
    -- the votes of a column
    column-votes : (j : ℕ) → j < H.n → column_votes x H.n (at p) j ≡ votes H z j
    unfolding column_votes ones_at votes column_rows
    column-votes j l =
        ap (λ (y : List ℕ). sum_below (at y (j + 1) - at y j) (λ q. at p (at y (H.n + 1 + at y j + q)))) own
        ∙ part-sum (index_of H) (H.n + 1 + at (index_of H) j) (at (index_of H) (j + 1) - at (index_of H) j) H.m (at p) below
        ∙ sum-cong H.m (λ i h.
        ap (λ (y : ℕ). y * at p i) (column-rows H a j i l h) ∙ ap (λ (y : ℕ). has H i j * y) (k.each i h))
      where
        below : (q : ℕ) → q < at (index_of H) (j + 1) - at (index_of H) j → at (index_of H) (H.n + 1 + at (index_of H) j + q) < H.m
        below q h =
            let e : H.n + 1 + at (index_of H) j + q ≡ suc H.n + (at (index_of H) j + q) = omega arith in
            omega (arith, ap (at (index_of H)) e, index_below H a.rows j l q (omega (arith, count-is H a j l)))

    -- a column that the matrix does not have gets no votes
    none-outside : (j : ℕ) → H.n ≤ j → votes H z j ≡ 0
    unfolding votes
    none-outside j l = sum-zero H.m (λ i h. ap (λ (y : ℕ). y * fails H z i) (has-outside H a.rows i j h l) ∙ zero-mul (fails H z i))

    -- over a cleared array they are the tally of the votes
    pub column-tallied : (v : List ℕ) (f : ℕ) → v ≡ over (listed H.n (column_votes x H.n (at p))) (replicate 1023 0) → f ≡ failing H z → Tallied H z v f
    column-tallied v f e c =
        record {
          long = over-long H.n (column_votes x H.n (at p)) (replicate 1023 0) v e (omega (arith, a.sizes.n_most, length-replicate {A = ℕ} 1023 0))
              ∙ length-replicate {A = ℕ} 1023 0;
          each = λ j. elim (dec_lt j H.n) [
            | yes l ↦ over-at H.n (column_votes x H.n (at p)) (replicate 1023 0) v e 0 j l ∙ column-votes j l
            | no g ↦
                over-rest H.n (column_votes x H.n (at p)) (replicate 1023 0) v e 0 j (omega arith)
                ∙ zeros 1023 j
                ∙ sym (none-outside j (omega arith))
          ];
          count = c;
        }
