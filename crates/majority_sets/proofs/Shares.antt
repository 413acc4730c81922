-- Laws of listed checks whose votes are counted in two parts: the first of them one by one, the others by their sets.
--   sets-there        == the sets of the listed rows stand in the memory
--   sets-six          == their counts have six digits
--   first-parts       == the first of the listed rows are rows of the list
--   all-votes         == the votes of all are those of the first and of the others
-- Assumes nothing.
use mathlib.Core.Path.{◌≡◌, refl, sym, ap, ◌∙◌}
use mathlib.Core.List.{List}
use Prim.Native.Nat.{ℕ, ◌+◌, ◌*◌, ◌/◌, ◌%◌, ◌<◌, ◌≤◌}
use native.Mathlib.Decide.{dec_lt}
use native.Mathlib.Omega.{arith}
use borrow.Author.Tests.{lt-ltb, le-ltb}
use Rattle.counting.specs.Paper.Sum.{sum_below}
use Rattle.counting.specs.Places.{at, among}
use Rattle.counting.proofs.Sums.{sum-append, sum-cong, sum-zero}
use Rattle.matrix.specs.Paper.Code.{Matrix, entry, has}
use Rattle.matrix.specs.Paper.PlainCheck.{Accepted}
use Rattle.matrix.proofs.Rows.{has-outside}
use Rattle.matrix_rows.specs.Rows.{word_of, place_of, column_at, RowSets}
use Rattle.matrix_rows.proofs.Shares.{word-is, place_is}
use Rattle.majority_votes.specs.Tallies.{of_rows, ListedRows}
use Rattle.majority_planes.specs.Planes.{sets_count, SetsAt, SixDigits}
use Rattle.majority_sets.specs.Sets.{listed_votes, VotesFew}

module _ (H : Matrix) (a : Accepted H) (x : List ℕ) (s : RowSets H x) (l : List ℕ) (t : ℕ) (f : VotesFew H l t) where
  -- the sets of the listed rows
  pub sets-there : SetsAt x l (t % 8 + 8 * (t / 8))
  sets-there q h = (f.parts.below q (omega arith), omega (arith, f.below q (omega arith), s.room))

  -- how often those from place t % 8 on have column j
  others : ℕ → ℕ
  others j = sum_below (8 * (t / 8)) (λ q. among H.list (at l (t % 8 + q) * H.rho) H.rho j)

  -- the first, and the others
  in_parts : (j : ℕ) → of_rows H.list H.rho l t j ≡ of_rows H.list H.rho l (t % 8) j + others j
  unfolding of_rows others
  in_parts j =
      let e : t ≡ t % 8 + 8 * (t / 8) = omega arith in
      ap (λ (k : ℕ). sum_below k (λ q. among H.list (at l q * H.rho) H.rho j)) e
      ∙ sum-append (t % 8) (8 * (t / 8)) (λ q. among H.list (at l q * H.rho) H.rho j)

  -- a row's column, counted in the list
  row_has : (i j : ℕ) → among H.list (i * H.rho) H.rho j ≡ has H i j
  unfolding among has entry
  row_has i j = refl

  -- by the sets
  others-sets : (j : ℕ) → j < 1024 → others j ≡ sets_count x l (t % 8) (8 * (t / 8)) (word_of j) (place_of j)
  unfolding sets_count others
  others-sets j h =
      sum-cong (8 * (t / 8)) (λ q g. row_has (at l (t % 8 + q)) j ∙ sym (s.column (at l (t % 8 + q)) j (f.below (t % 8 + q) (omega arith)) h))

  -- no row has a column past those of the matrix
  others-none : (j : ℕ) → H.n ≤ j → others j ≡ 0
  unfolding others
  others-none j h =
      sum-zero (8 * (t / 8))
      (λ q g. row_has (at l (t % 8 + q)) j ∙ has-outside H a.rows (at l (t % 8 + q)) j (f.below (t % 8 + q) (omega arith)) h)

  -- of the matrix's columns
  others-votes : (j : ℕ) → others j ≡ listed_votes H.n x l (t % 8) (8 * (t / 8)) j
  unfolding listed_votes
  others-votes j =
      elim (dec_lt j H.n) [
        | yes h ↦ rw (lt-ltb j H.n h) (others-sets j (omega (arith, a.sizes.n_most)))
        | no g ↦ rw (le-ltb j H.n (omega arith)) (others-none j (omega arith))
      ]

  -- a place of a word is that of a column
  pub sets-six : SixDigits x l (t % 8) (8 * (t / 8))
  sets-six w b h g =
      let ew : word_of (column_at w b) ≡ w = word-is w b h g in
      let ep : place_of (column_at w b) ≡ b = place_is w b h g in
      let so = others-sets (column_at w b) (omega arith) in
      let e : sets_count x l (t % 8) (8 * (t / 8)) (word_of (column_at w b)) (place_of (column_at w b)) ≡ sets_count x l (t % 8) (8 * (t / 8)) w b =
      ap (λ (v : ℕ). sets_count x l (t % 8) (8 * (t / 8)) v (place_of (column_at w b))) ew ∙ ap (sets_count x l (t % 8) (8 * (t / 8)) w) ep in
      omega (arith, so, e, in_parts (column_at w b), f.few (column_at w b))

  -- the first of them
  pub first-parts : ListedRows H.list H.rho l (t % 8)
  first-parts =
      record {
        few = omega (arith, f.parts.few);
        below = λ q h. f.parts.below q (omega arith);
        part = λ q h. f.parts.part q (omega arith);
      }

  -- all of them are the first and the others
  pub all-votes : (j : ℕ) → of_rows H.list H.rho l t j ≡ of_rows H.list H.rho l (t % 8) j + listed_votes H.n x l (t % 8) (8 * (t / 8)) j
  all-votes j = in_parts j ∙ ap (λ (y : ℕ). of_rows H.list H.rho l (t % 8) j + y) (others-votes j)
