-- Laws of the index of a matrix: its length, its starting places, and where each row stands.
--   before-all     == a column's ones before the last row's end are its weight
--   before-next    == a row's ones come on top of those before it
--   rows_at        == a row that has the column stands behind those before it
--   has-entry      == a row has its own columns
--   index-long     == the index has n + 1 + m * rho numbers
--   index-start    == its first numbers are the starting places
--   index-rows     == behind them stand the rows of each column
--   start-next     == where a column's part ends
--   index-row      == row i stands at its place in each of its columns
--   place-past     == that place lies behind the starting places
--   place_inside   == and in the index
--   place-own      == no two rows have a place in common
--   index-covers   == every place behind the starting places is that of a row
-- Assumes nothing.
use mathlib.Core.Path.{◌≡◌, refl, sym, ap, ◌∙◌}
use mathlib.Core.List.{List, ◌++◌}
use Prim.Native.Nat.{ℕ, zero, suc, ◌+◌, ◌*◌, ◌-◌, ◌≤◌, ◌<◌}
use native.Mathlib.Nat.{not-suc-le-zero}
use native.Mathlib.Decide.{ℕ_discrete}
use native.Mathlib.Omega.{arith}
use lib.ListN.{length, replicate, length-append, get_or-append}
use lib.Seq.{get_or-append-add}
use Rattle.counting.specs.Paper.Sum.{sum_below, same}
use Rattle.counting.specs.Paper.Lists.{listed}
use Rattle.counting.specs.Paper.Joined.{joined}
use Rattle.counting.specs.Places.{at}
use Rattle.counting.proofs.Sums.{sum-cong, sum-next, sum-term, sum-pos, sum-within, same_refl, same-pos}
use Rattle.counting.proofs.Writes.{length-listed, get_or-listed}
use Rattle.counting.proofs.Joined.{length-joined, get_or-joined}
use Rattle.matrix.specs.Paper.Code.{Matrix, entry, has, weight}
use Rattle.matrix.specs.Paper.PlainCheck.{Rows}
use Rattle.matrix.proofs.Rows.{has-le}
use Rattle.matrix.proofs.Weights.{weights-total}
use Rattle.matrix_index.specs.Paper.Index.{column_start, rows_of, index_of, index_size}
use Rattle.matrix_index.specs.Filling.{before, row_place}
use Rattle.matrix_index.proofs.RowCounts.{length-rows}

module _ (H : Matrix) where
  -- a column's weight is its ones in all rows
  pub before-all : (j : ℕ) → before H H.m j ≡ weight H j
  unfolding before weight
  before-all j = refl

  -- the ones of a column before a later row
  pub before-next : (j r i : ℕ) → r < i → before H r j + has H r j ≤ before H i j
  unfolding before
  before-next j r i l = sum-next r i (λ p. has H p j) l

  -- a row that has the column stands behind those before it
  pub rows_at : (j r i : ℕ) → r < i → has H r j ≡ 1 → at (rows_of H j i) (before H r j) ≡ r
  unfolding rows_of
  rows_at j r zero l e = absurd (not-suc-le-zero l)
  rows_at j r (suc i) l e =
      elim (ℕ_discrete r i) [
        | yes q ↦
            ap (λ (p : ℕ). at (rows_of H j i ++ replicate (has H i j) i) p) (ap (λ (y : ℕ). before H y j) q ∙ sym (length-rows H j i) ∙ omega arith)
            ∙ get_or-append-add (rows_of H j i) (replicate (has H i j) i) 0 0
            ∙ ap (λ (y : ℕ). at (replicate y i) 0) (ap (λ (y : ℕ). has H y j) (sym q) ∙ e)
            ∙ sym q
        | no ne ↦
            get_or-append (rows_of H j i) (replicate (has H i j) i) 0 (before H r j)
            (omega (arith, length-rows H j i, before-next j r i (omega arith), e))
            ∙ rows_at j r i (omega arith) e
      ]

module _ (H : Matrix) (r : Rows H) where
  -- a row has its own columns
  pub has-entry : (i k : ℕ) → i < H.m → k < H.rho → has H i (entry H i k) ≡ 1
  unfolding has
  has-entry i k l h =
      omega (
        arith,
        sum-term H.rho (λ q. same (entry H i q) (entry H i k)) k h,
        same_refl (entry H i k),
        has-le H r i (entry H i k) l,
      )

  -- the rows of all columns are m * rho numbers
  rows-total : sum_below H.n (λ j. length (rows_of H j H.m)) ≡ H.m * H.rho
  rows-total = sum-cong H.n (λ j h. length-rows H j H.m ∙ before-all H j) ∙ weights-total H r

  -- the index has n + 1 + m * rho numbers
  pub index-long : length (index_of H) ≡ index_size H
  unfolding index_of index_size
  index-long =
      length-append (listed (suc H.n) (column_start H)) (joined H.n (λ j. rows_of H j H.m))
      ∙ omega (
        arith,
        length-listed (suc H.n) (column_start H),
        length-joined (λ j. rows_of H j H.m) H.n,
        rows-total,
      )

  -- its first numbers are the starting places
  pub index-start : (j : ℕ) → j < suc H.n → at (index_of H) j ≡ column_start H j
  unfolding index_of
  index-start j l =
      get_or-append (listed (suc H.n) (column_start H)) (joined H.n (λ j. rows_of H j H.m)) 0 j
      (omega (arith, length-listed (suc H.n) (column_start H)))
      ∙ get_or-listed (suc H.n) (column_start H) j 0 l

  -- where the parts of the columns before column j end
  start-parts : (j : ℕ) → sum_below j (λ i. length (rows_of H i H.m)) ≡ column_start H j
  unfolding column_start
  start-parts j = sum-cong j (λ i h. length-rows H i H.m ∙ before-all H i)

  -- behind them stand the rows of each column
  pub index-rows : (j q : ℕ) → j < H.n → q < weight H j → at (index_of H) (suc H.n + (column_start H j + q)) ≡ at (rows_of H j H.m) q
  unfolding index_of
  index-rows j q l h =
      ap (λ (p : ℕ). at (starts ++ parts) p)
      (ap (λ (y : ℕ). y + (column_start H j + q)) (sym (length-listed (suc H.n) (column_start H)))
      ∙ ap (λ (y : ℕ). length starts + (y + q)) (sym (start-parts j)))
      ∙ get_or-append-add starts parts (sum_below j (λ i. length (rows_of H i H.m)) + q) 0
      ∙ get_or-joined (λ i. rows_of H i H.m) H.n j q 0 l (omega (arith, length-rows H j H.m, before-all H j))
    where
      starts : List ℕ
      starts = listed (suc H.n) (column_start H)

      parts : List ℕ
      parts = joined H.n (λ i. rows_of H i H.m)

  -- where a column's part ends
  pub start-next : (j : ℕ) → j < H.n → column_start H j + weight H j ≤ H.m * H.rho
  unfolding column_start
  start-next j l = omega (arith, sum-next j H.n (weight H) l, weights-total H r)

  module _ (i k : ℕ) (l : i < H.m) (h : k < H.rho) where
    -- the rows before row i leave room for it
    room : before H i (entry H i k) < weight H (entry H i k)
    room = omega (arith, before-next H (entry H i k) i H.m l, before-all H (entry H i k), has-entry i k l h)

    -- row i stands at its place in each of its columns
    pub index-row : at (index_of H) (row_place H i k) ≡ i
    unfolding row_place
    index-row =
        index-rows (entry H i k) (before H i (entry H i k)) (r.below i k l h) room
        ∙ rows_at H (entry H i k) i H.m l (has-entry i k l h)

    -- that place lies behind the starting places
    pub place-past : suc H.n ≤ row_place H i k
    unfolding row_place
    place-past = omega arith

    -- and in the index
    pub place_inside : row_place H i k < index_size H
    unfolding row_place index_size
    place_inside = omega (arith, room, start-next (entry H i k) (r.below i k l h))

  -- no two rows have a place in common
  pub place-own : (i k i' k' : ℕ) → i < H.m → k < H.rho → i' < H.m → k' < H.rho → row_place H i k ≡ row_place H i' k' → i ≡ i'
  place-own i k i' k' l h l' h' e = sym (index-row i k l h) ∙ ap (at (index_of H)) e ∙ index-row i' k' l' h'

  -- every place behind the starting places is that of a row
  pub index-covers : (c : ℕ) → suc H.n ≤ c → c < index_size H → (i : ℕ) × (k : ℕ) × (i < H.m) × (k < H.rho) × (c ≡ row_place H i k)
  unfolding index_size row_place column_start before weight has
  index-covers c g l =
      let p = sum-within H.n (weight H) (c - suc H.n) (omega (arith, weights-total H r)) in
      let j = p.0 in
      let s = sum-within H.m (λ i. has H i j) p.1 p.3 in
      let i = s.0 in
      let o = sum-pos H.rho (λ k. same (entry H i k) j) (omega (arith, s.3)) in
      let e : entry H i o.0 ≡ j = same-pos (entry H i o.0) j o.2 in
      (i, o.0, s.2, o.1, rw e (omega (arith, p.4, s.4, s.3, has-le H r i j s.2)))
