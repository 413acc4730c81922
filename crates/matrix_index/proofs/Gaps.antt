-- Laws of the columns' weights as the starting places of the index have them.
--   index-gap      == the gap at a column is its weight
--   starts-rise    == the starting places do not fall
--   gaps-weighed   == an array in which the gaps are written has the weights
-- Assumes nothing.
use mathlib.Core.Path.{◌≡◌, ap, ◌∙◌}
use mathlib.Core.List.{List}
use Prim.Native.Nat.{ℕ, ◌+◌, ◌≤◌, ◌<◌}
use native.Mathlib.Numerals.{add-one}
use native.Mathlib.Omega.{arith}
use Rattle.counting.specs.Paper.Lists.{listed, over}
use Rattle.counting.specs.Places.{at}
use Rattle.counting.proofs.Writes.{over-at}
use Rattle.matrix.specs.Paper.Code.{Matrix, weight}
use Rattle.matrix.specs.Paper.PlainCheck.{Accepted}
use Rattle.matrix.specs.Tallies.{Weighed}
use Rattle.matrix_degrees.specs.Degrees.{gap}
use Rattle.matrix_index.specs.Paper.Index.{index_of}
use Rattle.matrix_index.proofs.Columns.{index-next}

-- the next starting place is this one and the column's weight
next : (H : Matrix) → Accepted H → (x : List ℕ) → x ≡ index_of H → (j : ℕ) → j < H.n → at x (j + 1) ≡ at x j + weight H j
next H a x e j l = rw e (ap (at (index_of H)) (add-one j) ∙ index-next H a.rows j l)

-- the gap at a column is its weight
pub index-gap : (H : Matrix) → Accepted H → (x : List ℕ) → x ≡ index_of H → (j : ℕ) → j < H.n → gap x j ≡ weight H j
unfolding gap
index-gap H a x e j l = omega (arith, next H a x e j l)

-- the starting places do not fall
pub starts-rise : (H : Matrix) → Accepted H → (x : List ℕ) → x ≡ index_of H → (j : ℕ) → j < H.n → at x j ≤ at x (j + 1)
starts-rise H a x e j l = omega (arith, next H a x e j l)

-- an array in which the gaps are written has the weights
pub gaps-weighed : (H : Matrix) → Accepted H → (x : List ℕ) → x ≡ index_of H → (w old : List ℕ)
    → w ≡ over (listed H.n (gap x)) old → Weighed H w
gaps-weighed H a x e w old s j l = over-at H.n (gap x) old w s 0 j l ∙ index-gap H a x e j l
