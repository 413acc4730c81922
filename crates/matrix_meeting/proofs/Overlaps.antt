-- Laws of the searches: from the rows of one part to those of the whole matrix.
--   meets-none     == no row up to the part's first has an earlier row of the part
--   seen-some      == the search that ends at a row which shares two columns with an earlier row of the part: true, and the bits so far
--   seen_none      == the search that ends after the last row: false, and the bits for all of the part's rows
--   part-some      == a part whose answer is true has a row for which the matrix's answer is true
--   parts_none     == where no part's answer is true, the matrix's is false
--   overlap-some   == where the matrix's answer is true refusal 5 has its place below m
--   overlap-none   == where it is false the place is m
-- Assumes nothing.
use mathlib.Core.Path.{◌≡◌, refl, sym, subst, ◌∙◌}
use mathlib.Core.Bool.{true, false, ◌&&◌}
use mathlib.Core.List.{List}
use Prim.Native.Nat.{ℕ, ◌*◌, ◌/◌, ◌≤◌, ◌<◌}
use native.Mathlib.Decide.{dec_lt}
use native.Mathlib.Omega.{arith}
use borrow.Author.Tests.{ltb-true, ltb-false, leb-true, lt-ltb, le-ltb, le-leb, eq-eqb, ne_eqb}
use lib.Dec.{leb, eqb}
use lib.ListN.{length}
use Rattle.counting.specs.Paper.Search.{first}
use Rattle.counting.proofs.Searches.{never, cases, and_left, and_right, and_both, any_at, any_none, any_found, any-clear}
use Rattle.counting.proofs.Searches.{first-none, first-at, first-le, first-clear}
use Rattle.counting.proofs.Decisions.{test-holds}
use Rattle.matrix.specs.Paper.Code.{Matrix, common}
use Rattle.matrix.specs.Paper.Check.{overlapping}
use Rattle.matrix.proofs.PlainCheck.{overlaps, overlap-says}
use Rattle.matrix_meeting.specs.Marks.{MarksOf}
use Rattle.matrix_meeting.specs.Overlaps.{meets_part, stop_row, part_row, part_overlaps, RowsSeen, has_overlap}

module _ (H : Matrix) where
  -- no row up to the part's first has an earlier row of the part
  pub meets-none : (part i : ℕ) → i ≤ part * 256 → meets_part H part i ≡ false
  unfolding meets_part
  meets-none part i h =
      any_none (λ x. eqb (x / 256) part && leb 2 (common H x i)) i (λ x l. rw (ne_eqb (x / 256) part (λ e. omega arith)))

  -- a row that shares two columns with an earlier row of the part
  stop-some : (part i : ℕ) → i < H.m → meets_part H part i ≡ true → part_overlaps H part ≡ true
  unfolding meets_part part_overlaps part_row
  stop-some part i l e =
      let f = any_found (λ x. eqb (x / 256) part && leb 2 (common H x i)) i e in
      let x = f.0 in
      let mine = and_left (eqb (x / 256) part) (leb 2 (common H x i)) f.2 in
      let two = leb-true 2 (common H x i) (and_right (eqb (x / 256) part) (leb 2 (common H x i)) f.2) in
      any_at (part_row H part) H.m x (omega (arith, f.1))
      (and_both (eqb (x / 256) part) (overlapping H x) mine (test-holds (overlaps H) x (i, f.1, l, two)))

  -- where no row does
  stop-none : (part : ℕ) → ((i : ℕ) → i < H.m → meets_part H part i ≡ false) → part_overlaps H part ≡ false
  unfolding meets_part part_overlaps part_row
  stop-none part none =
      any_none (part_row H part) H.m (λ x l.
      cases (eqb (x / 256) part && overlapping H x) (λ y.
      let mine = and_left (eqb (x / 256) part) (overlapping H x) y in
      let o = overlap-says H x (and_right (eqb (x / 256) part) (overlapping H x) y) in
      let i = o.0 in
      let meets = any_at (λ z. eqb (z / 256) part && leb 2 (common H z i)) i x o.1
      (and_both (eqb (x / 256) part) (leb 2 (common H x i)) mine (le-leb 2 (common H x i) o.3)) in
      absurd (never (sym meets ∙ none i o.2))) (λ n. n))

  -- the search that ends at such a row
  pub seen-some : (part i : ℕ) (w w' : List ℕ) → i < H.m → length w' ≡ length w → MarksOf H part i w'
      → ((x : ℕ) → x < i → meets_part H part x ≡ false) → meets_part H part i ≡ true → RowsSeen H part w w' true
  unfolding stop_row
  seen-some part i w w' l long marks none here =
      record {
        answer = sym (stop-some part i l here);
        long = long;
        marks = subst (λ (x : ℕ). MarksOf H part x w') (sym (first-at (meets_part H part) H.m i l none here)) marks;
      }

  -- the search that ends after the last row
  pub seen_none : (part : ℕ) (w w' : List ℕ) → length w' ≡ length w → MarksOf H part H.m w'
      → ((x : ℕ) → x < H.m → meets_part H part x ≡ false) → RowsSeen H part w w' false
  unfolding stop_row
  seen_none part w w' long marks none =
      record {
        answer = sym (stop-none part none);
        long = long;
        marks = subst (λ (x : ℕ). MarksOf H part x w') (sym (first-none (meets_part H part) H.m none)) marks;
      }

  -- a part whose answer is true
  pub part-some : (part : ℕ) → part_overlaps H part ≡ true → has_overlap H ≡ true
  unfolding part_overlaps part_row has_overlap
  part-some part e =
      let f = any_found (part_row H part) H.m e in
      let here = and_right (eqb (f.0 / 256) part) (overlapping H f.0) f.2 in
      elim (dec_lt (first (overlapping H) H.m) H.m) [
        | yes l ↦ lt-ltb (first (overlapping H) H.m) H.m l
        | no ne ↦ absurd (never (sym here ∙ first-clear (overlapping H) H.m (omega arith) f.0 f.1))
      ]

  -- where no part's answer is true
  pub parts_none : (part : ℕ) → H.m ≤ part * 256 → ((p : ℕ) → p < part → part_overlaps H p ≡ false) → has_overlap H ≡ false
  unfolding part_overlaps part_row has_overlap
  parts_none part le none =
      let clear : (x : ℕ) → x < H.m → overlapping H x ≡ false = λ x l.
      cases (overlapping H x) (λ y. absurd (never (
      sym (and_both (eqb (x / 256) (x / 256)) (overlapping H x) (eq-eqb (x / 256) (x / 256) refl) y)
      ∙ any-clear (part_row H (x / 256)) H.m (none (x / 256) (omega arith)) x l))) (λ n. n) in
      le-ltb (first (overlapping H) H.m) H.m (omega (arith, first-none (overlapping H) H.m clear))

  -- where the matrix's answer is true refusal 5 has its place below m
  pub overlap-some : has_overlap H ≡ true → first (overlapping H) H.m < H.m
  unfolding has_overlap
  overlap-some e = ltb-true (first (overlapping H) H.m) H.m e

  -- where it is false the place is m
  pub overlap-none : has_overlap H ≡ false → first (overlapping H) H.m ≡ H.m
  unfolding has_overlap
  overlap-none e = omega (arith, ltb-false (first (overlapping H) H.m) H.m e, first-le (overlapping H) H.m)
