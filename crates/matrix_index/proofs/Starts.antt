-- Laws of the starting places by the columns' weights: running sums.
--   front_copied   == the front of one list, copied over the front of another
--   sum_first      == the first starting place is 0
--   sum_more       == the next one is further by a column's weight
--   sum_fits       == it is no further than the last one
--   sum-starts     == by the weights of a matrix, the starting places are the index's
--   sum-small      == and the last one fits a cell
--   starts-put     == so what is written over the memory are these
--   starts-copied  == and what is copied from there over the weights
-- Assumes nothing.
use mathlib.Core.Path.{◌≡◌, refl, sym, ap, ◌∙◌}
use mathlib.Core.List.{List, ◌++◌}
use Prim.Native.Nat.{ℕ, ◌+◌, ◌≤◌, ◌<◌}
use native.Mathlib.Numerals.{add-one}
use native.Mathlib.Omega.{arith}
use lib.ListN.{length, take, drop}
use lib.Seq.{ext_get_or}
use Rattle.std.proofs.lemmas.List.{length-take-le, get_or-take}
use Rattle.counting.specs.Paper.Sum.{sum_below}
use Rattle.counting.specs.Paper.Lists.{listed, over}
use Rattle.counting.specs.Places.{at}
use Rattle.counting.proofs.Sums.{sum-cong, sum-next}
use Rattle.counting.proofs.Writes.{length-listed, get_or-listed, listed-cong, over-at, over-over}
use Rattle.matrix.specs.Paper.Code.{Matrix, weight}
use Rattle.matrix.specs.Paper.PlainCheck.{Accepted}
use Rattle.matrix.proofs.Rows.{few-entries}
use Rattle.matrix.proofs.Weights.{weights-total}
use Rattle.matrix.specs.Tallies.{Weighed}
use Rattle.matrix_index.specs.Paper.Index.{column_start}
use Rattle.matrix_index.specs.Filling.{start_sum}

-- the front of one list, copied over the front of another
pub front_copied : (k : ℕ) (list old x : List ℕ) → k ≤ length list → x ≡ take k list → x ++ drop k old ≡ over (listed k (at list)) old
unfolding over
front_copied k list old x h e =
    let long : length (listed k (at list)) ≡ k = length-listed k (at list) in
    let here : length (take k list) ≡ k = length-take-le k list h in
    let same : take k list ≡ listed k (at list) = ext_get_or 0 (take k list) (listed k (at list)) (here ∙ sym long)
    (λ (t : ℕ) (l : t < length (take k list)). let m : t < k = omega (arith, l, here) in
    get_or-take k list t 0 m ∙ sym (get_or-listed k (at list) t 0 m)) in
    rw (e, same, long) refl

-- the first starting place
pub sum_first : (w : List ℕ) → 0 ≡ start_sum w 0
unfolding start_sum sum_below
sum_first w = refl

-- the next one
pub sum_more : (w : List ℕ) (j : ℕ) → start_sum w j + at w j ≡ start_sum w (j + 1)
unfolding start_sum sum_below
sum_more w j = rw (add-one j) refl

-- it is no further than the last one
pub sum_fits : (w : List ℕ) (j n : ℕ) → j < n → start_sum w j + at w j ≤ start_sum w n
unfolding start_sum
sum_fits w j n l = sum-next j n (at w) l

module _ (H : Matrix) (w : List ℕ) (heavy : Weighed H w) where
  -- by the weights of a matrix, the starting places are the index's
  pub sum-starts : (j : ℕ) → j ≤ H.n → start_sum w j ≡ column_start H j
  unfolding start_sum column_start
  sum-starts j l = sum-cong j (λ x h. heavy x (omega arith))

  -- and the last one fits a cell
  pub sum-small : Accepted H → start_sum w H.n ≤ 65535
  unfolding column_start
  sum-small a = omega (arith, sum-starts H.n (omega arith), weights-total H a.rows, few-entries H a.sizes)

  module _ (x y : List ℕ) (e : y ≡ over (listed (H.n + 1) (start_sum w)) x) where
    -- so what is written over the memory are these
    pub starts-put : y ≡ over (listed (H.n + 1) (column_start H)) x
    starts-put =
        e ∙ ap (λ (l : List ℕ). over l x) (listed-cong (H.n + 1) (start_sum w) (column_start H) (λ j l. sum-starts j (omega arith)))

    -- and what is copied from there over the weights
    pub starts-copied : (c c' c'' : List ℕ) → c' ≡ over (listed H.n (weight H)) c → c'' ≡ over (listed H.n (at y)) c'
        → c'' ≡ over (listed H.n (column_start H)) c
    starts-copied c c' c'' f g =
        g
        ∙ ap (λ (l : List ℕ). over l c')
        (listed-cong H.n (at y) (column_start H) (λ j l. over-at (H.n + 1) (column_start H) x y starts-put 0 j (omega arith)))
        ∙ ap (over (listed H.n (column_start H))) f
        ∙ over-over (listed H.n (column_start H)) (listed H.n (weight H)) c
        (length-listed H.n (column_start H) ∙ sym (length-listed H.n (weight H)))
