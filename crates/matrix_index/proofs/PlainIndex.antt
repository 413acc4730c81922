-- The plain reading of the index: `index_of H` has it, and no other list has.
--   is-index       == the index of an accepted matrix reads so
--   index_is       == and a list that reads so is the index
--   index-unique   == so no two lists do
-- Assumes nothing.
use mathlib.Core.Path.{◌≡◌, sym, ap, ◌∙◌}
use mathlib.Core.List.{List}
use Prim.Native.Nat.{ℕ, zero, suc, ◌+◌, ◌-◌, ◌≤◌, ◌<◌}
use native.Mathlib.Decide.{dec_lt}
use native.Mathlib.Omega.{arith}
use lib.Seq.{ext_get_or}
use Rattle.counting.specs.Paper.Sum.{sum_below}
use Rattle.counting.specs.Places.{at}
use Rattle.counting.proofs.Sums.{sum-within}
use Rattle.matrix.specs.Paper.Code.{Matrix, weight}
use Rattle.matrix.specs.Paper.PlainCheck.{Accepted}
use Rattle.matrix.proofs.Weights.{weights-total}
use Rattle.matrix_index.specs.Paper.Index.{column_start, rows_of, index_of, index_size}
use Rattle.matrix_index.specs.Paper.PlainIndex.{row_at, IsIndex}
use Rattle.matrix_index.specs.Filling.{before}
use Rattle.matrix_index.proofs.Parts.{before-all, before-next, rows_at, index-long, index-start, index-rows}
use Rattle.matrix_index.proofs.Columns.{index-next, index_below, index-has, index-ascends}

module _ (H : Matrix) (a : Accepted H) where
  -- the index of an accepted matrix reads so
  pub is-index : IsIndex H (index_of H)
  unfolding index_size column_start sum_below
  is-index =
      record {
        whole = index-long H a.rows;
        begins = index-start H a.rows 0 (omega arith);
        ends = index-start H a.rows H.n (omega arith) ∙ weights-total H a.rows;
        next = index-next H a.rows;
        ascending = λ j q l h. index-ascends H a.rows j l q h;
        row = λ j q l h. index_below H a.rows j l q h;
        own = λ j q l h. index-has H a.rows j l q h;
      }

  module _ (x : List ℕ) (p : IsIndex H x) where
    -- its starting places are the index's
    start-alike : (j : ℕ) → j ≤ H.n → at x j ≡ column_start H j
    unfolding column_start sum_below
    start-alike zero l = p.begins
    start-alike (suc j) l = omega (arith, p.next j l, start-alike j (omega arith))

    module _ (j : ℕ) (l : j < H.n) where
      -- a row and one behind it, both of the column
      step : (q : ℕ) → suc q < weight H j → before H (row_at H x j q) j + 1 ≤ before H (row_at H x j (suc q)) j
      step q h =
          omega (
            arith,
            before-next H j (row_at H x j q) (row_at H x j (suc q)) (p.ascending j q l h),
            p.own j q l (omega arith),
          )

      -- as many rows of the column come before its q-th row number as stand before it, or more
      least : (q : ℕ) → q < weight H j → q ≤ before H (row_at H x j q) j
      least zero h = omega arith
      least (suc q) h = omega (arith, least q (omega arith), step q h)

      -- and no more, as d row numbers are left for it and those behind it
      most : (d q : ℕ) → q + suc d ≡ weight H j → before H (row_at H x j q) j + suc d ≤ weight H j
      most zero q e =
          omega (
            arith,
            before-next H j (row_at H x j q) H.m (p.row j q l (omega arith)),
            before-all H j,
            p.own j q l (omega arith),
          )
      most (suc d) q e = omega (arith, most d (suc q) (omega arith), step q (omega arith))

      counted : (q : ℕ) → q < weight H j → before H (row_at H x j q) j ≡ q
      counted q h = omega (arith, least q h, most (weight H j - suc q) q (omega arith))

      -- so its row numbers are the index's
      row-alike : (q : ℕ) → q < weight H j → row_at H x j q ≡ at (index_of H) (suc H.n + (column_start H j + q))
      row-alike q h =
          sym (rows_at H j (row_at H x j q) H.m (p.row j q l h) (p.own j q l h))
          ∙ ap (at (rows_of H j H.m)) (counted q h)
          ∙ sym (index-rows H a.rows j q l h)

    -- each of its numbers is the index's
    alike : (c : ℕ) → c < index_size H → at x c ≡ at (index_of H) c
    unfolding index_size column_start
    alike c h =
        elim (dec_lt c (suc H.n)) [
          | yes l ↦ start-alike c (omega arith) ∙ sym (index-start H a.rows c l)
          | no g ↦
              let w = sum-within H.n (weight H) (c - suc H.n) (omega (arith, weights-total H a.rows)) in
              let e : suc H.n + (at x w.0 + w.1) ≡ c = omega (arith, w.4, start-alike w.0 (omega (arith, w.2))) in
              let f : suc H.n + (column_start H w.0 + w.1) ≡ c = omega (arith, w.4) in
              ap (at x) (sym e) ∙ row-alike w.0 w.2 w.1 w.3 ∙ ap (at (index_of H)) f
        ]

    -- a list that reads so is the index
    pub index_is : x ≡ index_of H
    unfolding index_size
    index_is =
        ext_get_or 0 x (index_of H) (p.whole ∙ sym (index-long H a.rows)) (λ c h. alike c (omega (arith, p.whole)))

  -- so no two lists do
  pub index-unique : (x y : List ℕ) → IsIndex H x → IsIndex H y → x ≡ y
  index-unique x y p q = index_is x p ∙ sym (index_is y q)
