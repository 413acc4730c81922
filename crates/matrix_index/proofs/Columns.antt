-- The index as the decoders read it: for each column, its rows.
--   RowIn          == the row at place q of a column: it has the column, and q rows before it have
--   row_in         == each place of a column has such a row
--   row_is         == and it stands there
--   index-next     == a starting place is the one before it and that column's weight
--   index-most     == a column's rows lie in the index
--   index_below    == they are rows of the matrix
--   index-has      == they have the column
--   index-ascends  == they ascend
--   index-among    == a row stands among a column's rows as often as it has the column
-- Assumes nothing.
use mathlib.Core.Path.{◌≡◌, refl, sym, ap, ◌∙◌}
use mathlib.Core.List.{◌++◌}
use Prim.Native.Nat.{ℕ, zero, suc, ◌+◌, ◌*◌, ◌≤◌, ◌<◌}
use native.Mathlib.Nat.{mul_comm}
use native.Mathlib.Decide.{dec_lt}
use native.Mathlib.Omega.{arith}
use lib.ListN.{replicate, get_or-replicate, get_or-append}
use lib.Seq.{get_or-append-add}
use Rattle.counting.specs.Paper.Sum.{sum_below, same}
use Rattle.counting.specs.Places.{at, among}
use Rattle.counting.proofs.Sums.{sum-cong, sum-part, sum-append, sum-const, sum-within, sum-pick, same-sym}
use Rattle.matrix.specs.Paper.Code.{Matrix, has, weight}
use Rattle.matrix.specs.Paper.PlainCheck.{Rows}
use Rattle.matrix.proofs.Rows.{has-le}
use Rattle.matrix_index.specs.Paper.Index.{column_start, rows_of, index_of, index_size}
use Rattle.matrix_index.specs.Filling.{before}
use Rattle.matrix_index.proofs.RowCounts.{length-rows}
use Rattle.matrix_index.proofs.Parts.{before-all, rows_at, start-next, index-start, index-rows}

-- the row at place q of column j
pub record RowIn (H : Matrix) (j q : ℕ) : Type 0 where
  pub row : ℕ
  pub below : row < H.m
  pub own : has H row j ≡ 1
  pub earlier : before H row j ≡ q

-- a row counted among the rows of a column before row k
rows-among : (H : Matrix) (j i k : ℕ) → sum_below (before H k j) (λ q. same (at (rows_of H j k) q) i) ≡ sum_below k (λ p. has H p j * same p i)
unfolding rows_of before sum_below
rows-among H j i zero = refl
rows-among H j i (suc k) =
    sum-append (before H k j) (has H k j) (λ q. same (at (rows_of H j k ++ replicate (has H k j) k) q) i)
    ∙ omega (arith, front, back, rows-among H j i k)
  where
    front : sum_below (before H k j) (λ q. same (at (rows_of H j k ++ replicate (has H k j) k) q) i)
        ≡ sum_below (before H k j) (λ q. same (at (rows_of H j k) q) i)
    front =
        sum-cong (before H k j) (λ q h.
        ap (λ (y : ℕ). same y i) (get_or-append (rows_of H j k) (replicate (has H k j) k) 0 q (omega (arith, length-rows H j k))))

    back : sum_below (has H k j) (λ q. same (at (rows_of H j k ++ replicate (has H k j) k) (before H k j + q)) i) ≡ has H k j * same k i
    back =
        sum-cong (has H k j) (λ q h.
        ap (λ (y : ℕ). same y i)
        (ap (λ (p : ℕ). at (rows_of H j k ++ replicate (has H k j) k) (p + q)) (sym (length-rows H j k))
        ∙ get_or-append-add (rows_of H j k) (replicate (has H k j) k) q 0
        ∙ get_or-replicate (has H k j) q k 0 h))
        ∙ sum-const (has H k j) (same k i)

module _ (H : Matrix) (r : Rows H) where
  -- each place of a column has its row
  pub row_in : (j q : ℕ) → q < weight H j → RowIn H j q
  unfolding weight before
  row_in j q h =
      let s = sum-within H.m (λ i. has H i j) q h in
      let one : has H s.0 j ≤ 1 = has-le H r s.0 j s.2 in
      record { row = s.0; below = s.2; own = omega (arith, one, s.3); earlier = omega (arith, one, s.3, s.4) }

  -- and it stands there
  pub row_is : (j q : ℕ) → j < H.n → (h : q < weight H j) → at (index_of H) (suc H.n + (at (index_of H) j + q)) ≡ (row_in j q h).row
  row_is j q l h =
      let p = row_in j q h in
      ap (λ (y : ℕ). at (index_of H) (suc H.n + (y + q))) (index-start H r j (omega arith))
      ∙ index-rows H r j q l h
      ∙ ap (at (rows_of H j H.m)) (sym p.earlier)
      ∙ rows_at H j p.row H.m p.below p.own

  -- a starting place is the one before it and that column's weight
  pub index-next : (j : ℕ) → j < H.n → at (index_of H) (suc j) ≡ at (index_of H) j + weight H j
  unfolding column_start sum_below
  index-next j l = omega (arith, index-start H r (suc j) (omega arith), index-start H r j (omega arith))

  module _ (j : ℕ) (l : j < H.n) where
    -- a column's rows lie in the index
    pub index-most : suc H.n + (at (index_of H) j + weight H j) ≤ index_size H
    unfolding index_size
    index-most = omega (arith, index-start H r j (omega arith), start-next H r j l)

    module _ (q : ℕ) (h : q < weight H j) where
      -- they are rows of the matrix
      pub index_below : at (index_of H) (suc H.n + (at (index_of H) j + q)) < H.m
      index_below = omega (arith, row_is j q l h, (row_in j q h).below)

      -- they have the column
      pub index-has : has H (at (index_of H) (suc H.n + (at (index_of H) j + q))) j ≡ 1
      index-has = ap (λ (y : ℕ). has H y j) (row_is j q l h) ∙ (row_in j q h).own

    -- they ascend
    pub index-ascends : (q : ℕ) → suc q < weight H j
        → at (index_of H) (suc H.n + (at (index_of H) j + q)) < at (index_of H) (suc H.n + (at (index_of H) j + suc q))
    unfolding before
    index-ascends q h =
        let low : q < weight H j = omega arith in
        let p = row_in j q low in
        let s = row_in j (suc q) h in
        elim (dec_lt p.row s.row) [
          | yes g ↦ omega (arith, row_is j q l low, row_is j (suc q) l h)
          | no g ↦ absurd (omega (arith, sum-part s.row p.row (λ i. has H i j) (omega arith), p.earlier, s.earlier))
        ]

    -- a row stands among a column's rows as often as it has the column
    pub index-among : (i : ℕ) → i < H.m → among (index_of H) (suc H.n + at (index_of H) j) (weight H j) i ≡ has H i j
    unfolding among
    index-among i h =
        sum-cong (weight H j) (λ q g. ap (λ (y : ℕ). same y i) (there q g))
        ∙ ap (λ (k : ℕ). sum_below k (λ q. same (at (rows_of H j H.m) q) i)) (sym (before-all H j))
        ∙ rows-among H j i H.m
        ∙ sum-cong H.m (λ p g. mul_comm (has H p j) (same p i) ∙ ap (λ (y : ℕ). y * has H p j) (same-sym p i))
        ∙ sum-pick H.m (λ p. has H p j) i h
      where
        there : (q : ℕ) → q < weight H j → at (index_of H) (suc H.n + at (index_of H) j + q) ≡ at (rows_of H j H.m) q
        there q g =
            let e : suc H.n + at (index_of H) j + q ≡ suc H.n + (column_start H j + q) = omega (arith, index-start H r j (omega arith)) in
            ap (at (index_of H)) e ∙ index-rows H r j q l g
