-- Laws of rows that are noted: which bits the words then have, and that the rows met in them are the part's earlier rows.
--   row_more       == one column more
--   noted_in       == where row i is one of the part's, noting it sets the bits for all its columns
--   noted-out      == where it is not, nothing changes
--   long-noted     == noting a row keeps the number of words
--   bit-room       == the bits for a row's columns lie in the words
--   marks-none     == cleared words have the bits for the part's rows before its first row: none
--   marks-more     == with row i noted the words have the bits for the part's rows up to i
--   once-clear     == where no row is met at two columns of row i, row i shares at most one column with each earlier row of the part
--   clear-once     == and where it does, none is met at two of its columns
-- Assumes nothing.
use mathlib.Core.Path.{◌≡◌, refl, sym, ap, subst, ◌∙◌}
use mathlib.Core.Bool.{Bool, false, cond, ◌&&◌}
use mathlib.Core.List.{List}
use mathlib.Core.Logic.{◌⊎◌, inl, inr}
use Prim.Native.Nat.{ℕ, zero, suc, ◌+◌, ◌*◌, ◌/◌, ◌≤◌, ◌<◌}
use native.Mathlib.Decide.{ℕ_discrete}
use native.Mathlib.Numerals.{add-one}
use native.Mathlib.Omega.{arith}
use borrow.Author.Tests.{leb-true, eqb-true, le-leb, eq-eqb, ne_eqb}
use lib.Dec.{leb, eqb}
use lib.ListN.{length}
use Rattle.counting.specs.Paper.Sum.{sum_below, same}
use Rattle.counting.proofs.Sums.{sum_one, sum-two, sum-pos, sum-term, same-pos, same_refl}
use Rattle.counting.proofs.Searches.{never, cases, and_left, and_right, and_both, any_at, any_none}
use Rattle.counting.proofs.Ascending.{ascending-once}
use Rattle.matrix.specs.Paper.Code.{Matrix, entry, has, common}
use Rattle.matrix.specs.Ordered.{Ordered}
use Rattle.matrix.proofs.Ordered.{columns-ascend, column-in}
use Rattle.matrix.proofs.Rows.{common-sym}
use Rattle.matrix_meeting.specs.Marks.{MarksHeld, Unmarked, bit_for, marked, row_marked, noted, RowMark, MarksOf, MetOnce}
use Rattle.matrix_meeting.specs.Overlaps.{meets_part}
use Rattle.matrix_meeting.proofs.Words.{long-marked, marked-here, marked-kept, marked-only, unmarked-none}

-- ---- one row that is noted

module _ (H : Matrix) (i : ℕ) (w : List ℕ) where
  -- setting bits for a row keeps the number of words
  long-row : (k : ℕ) → length (row_marked H i k w) ≡ length w
  unfolding row_marked
  long-row zero = refl
  long-row (suc k) = long-marked (bit_for (entry H i k) i) (row_marked H i k w) ∙ long-row k

  -- one column more
  pub row_more : (k c : ℕ) (v v' : List ℕ) → c ≡ entry H i k → v ≡ row_marked H i k w → v' ≡ marked (bit_for c i) v → v' ≡ row_marked H i (k + 1) w
  unfolding row_marked
  row_more k c v v' e p q = rw (q, p, e, add-one k)

  -- where row i is one of the part's, noting it sets the bits for all its columns
  pub noted_in : (part : ℕ) → i / 256 ≡ part → noted H part i w ≡ row_marked H i H.rho w
  unfolding noted
  noted_in part e = ap (λ (t : Bool). cond t (row_marked H i H.rho w) w) (eq-eqb (i / 256) part e)

  -- where it is not, nothing changes
  pub noted-out : (part : ℕ) → (i / 256 ≡ part → ⊥) → noted H part i w ≡ w
  unfolding noted
  noted-out part ne = ap (λ (t : Bool). cond t (row_marked H i H.rho w) w) (ne_eqb (i / 256) part ne)

  -- noting a row keeps the number of words
  pub long-noted : (part : ℕ) (w' : List ℕ) → w' ≡ noted H part i w → length w' ≡ length w
  long-noted part w' is =
      elim (ℕ_discrete (i / 256) part)
      [ yes e ↦ ap length (is ∙ noted_in part e) ∙ long-row H.rho | no ne ↦ ap length (is ∙ noted-out part ne) ]

  -- the bits for a row's columns lie in the words
  pub bit-room : Ordered H → i < H.m → H.n * 4 ≤ length w → (k : ℕ) → k < H.rho → bit_for (entry H i k) i / 64 < length w
  bit-room o l long k h = omega (arith, column-in o i k l h)

  module _ (room : (k : ℕ) → k < H.rho → bit_for (entry H i k) i / 64 < length w) where
    fits : (k : ℕ) → k < H.rho → bit_for (entry H i k) i / 64 < length (row_marked H i k w)
    fits k h = omega (arith, room k h, long-row k)

    -- the bits after the first k columns: those before, those for the columns, and no others
    row_kept : (k : ℕ) → k ≤ H.rho → (x : ℕ) → MarksHeld w x → MarksHeld (row_marked H i k w) x
    unfolding row_marked
    row_kept zero h x m = m
    row_kept (suc k) h x m =
        marked-kept (bit_for (entry H i k) i) (row_marked H i k w) (fits k h) x (row_kept k (omega arith) x m)

    row_here : (k : ℕ) → k ≤ H.rho → (q : ℕ) → q < k → MarksHeld (row_marked H i k w) (bit_for (entry H i q) i)
    unfolding row_marked
    row_here zero h q l = absurd (omega arith)
    row_here (suc k) h q l =
        elim (ℕ_discrete q k) [
          | yes e ↦ rw e (marked-here (bit_for (entry H i k) i) (row_marked H i k w) (fits k h))
          | no ne ↦
              marked-kept (bit_for (entry H i k) i) (row_marked H i k w) (fits k h) (bit_for (entry H i q) i)
              (row_here k (omega arith) q (omega arith))
        ]

    row-only : (k : ℕ) → k ≤ H.rho → (x : ℕ) → MarksHeld (row_marked H i k w) x
        → MarksHeld w x ⊎ ((q : ℕ) × (q < k) × (x ≡ bit_for (entry H i q) i))
    unfolding row_marked
    row-only zero h x m = inl m
    row-only (suc k) h x m =
        elim (marked-only (bit_for (entry H i k) i) (row_marked H i k w) (fits k h) x m) [
          | inl y ↦
              elim (row-only k (omega arith) x y)
              [ inl z ↦ inl z | inr z ↦ inr (z.0, omega (arith, z.1), z.2) ]
          | inr e ↦ inr (k, omega arith, e)
        ]

-- ---- the part's rows, one after the other

module _ (H : Matrix) (part i : ℕ) (w : List ℕ) where
  -- before the part's first row there are no bits
  pub marks-none : i ≤ part * 256 → Unmarked w → MarksOf H part i w
  marks-none h z =
      record {
        each = λ x m. absurd (omega (arith, m.early, m.mine));
        only = λ x m. absurd (unmarked-none w z x m);
      }

  later : {x : ℕ} → RowMark H part i x → RowMark H part (i + 1) x
  later m =
      record { row = m.row; place = m.place; early = omega (arith, m.early); mine = m.mine; inside = m.inside; is = m.is }

  earlier : {x : ℕ} (m : RowMark H part (i + 1) x) → (m.row ≡ i → ⊥) → RowMark H part i x
  earlier m ne =
      record { row = m.row; place = m.place; early = omega (arith, m.early); mine = m.mine; inside = m.inside; is = m.is }

  module _ (room : (k : ℕ) → k < H.rho → bit_for (entry H i k) i / 64 < length w) (s : MarksOf H part i w) where
    more-in : i / 256 ≡ part → MarksOf H part (i + 1) (row_marked H i H.rho w)
    more-in e =
        record {
          each = λ x m.
              elim (ℕ_discrete m.row i) [
                | yes y ↦
                    let at : x ≡ bit_for (entry H i m.place) i = m.is ∙ ap (λ (r : ℕ). bit_for (entry H r m.place) r) y in
                    rw at (row_here H i w room H.rho (omega arith) m.place m.inside)
                | no ne ↦ row_kept H i w room H.rho (omega arith) x (s.each x (earlier m ne))
              ];
          only = λ x m.
              elim (row-only H i w room H.rho (omega arith) x m) [
                | inl y ↦ later (s.only x y)
                | inr y ↦ record { row = i; place = y.0; early = omega arith; mine = e; inside = y.1; is = y.2 }
              ];
        }

    more-out : (i / 256 ≡ part → ⊥) → MarksOf H part (i + 1) w
    more-out ne =
        record {
          each = λ x m. s.each x (earlier m (λ y. ne (sym (ap (λ (r : ℕ). r / 256) y) ∙ m.mine)));
          only = λ x m. later (s.only x m);
        }

    -- with row i noted the words have the bits for the part's rows up to i
    pub marks-more : (w' : List ℕ) → w' ≡ noted H part i w → MarksOf H part (i + 1) w'
    marks-more w' is =
        elim (ℕ_discrete (i / 256) part) [
          | yes e ↦ subst (MarksOf H part (i + 1)) (sym (is ∙ noted_in H i w part e)) (more-in e)
          | no ne ↦ subst (MarksOf H part (i + 1)) (sym (is ∙ noted-out H i w part ne)) (more-out ne)
        ]

-- ---- rows that are met

module _ (H : Matrix) where
  -- a row that has a column
  has-at : (x k c : ℕ) → k < H.rho → c ≡ entry H x k → 0 < has H x c
  unfolding has
  has-at x k c h e =
      omega (arith, sum-term H.rho (λ q. same (entry H x q) c) k h, ap (same (entry H x k)) e, same_refl (entry H x k))

  -- a row that is noted and met once
  shares-one : Ordered H → (w : List ℕ) (x i : ℕ) → x < H.m → ((k : ℕ) → k < H.rho → MarksHeld w (bit_for (entry H x k) x)) → MetOnce H i w
      → common H x i ≤ 1
  unfolding common has MetOnce
  shares-one o w x i l row once =
      subst (λ (y : ℕ). y ≤ 1) (common-sym H i x)
      (sum_one H.rho (λ k. has H x (entry H i k)) (λ k _. ascending-once (entry H x) H.rho (λ y. columns-ascend o x y l) (entry H i k))
      (λ k k' lt b p p'. once k k' lt b x (found k p) (found k' p')))
    where
      found : (k : ℕ) → 0 < sum_below H.rho (λ q. same (entry H x q) (entry H i k)) → MarksHeld w (bit_for (entry H i k) x)
      found k p =
          let f = sum-pos H.rho (λ q. same (entry H x q) (entry H i k)) p in
          subst (λ (c : ℕ). MarksHeld w (bit_for c x)) (same-pos (entry H x f.0) (entry H i k) f.2) (row f.0 f.1)

  module _ (o : Ordered H) (part i : ℕ) (w : List ℕ) (l : i < H.m) (s : MarksOf H part i w) where
    -- where no row is met at two columns of row i it shares at most one column with each earlier row of the part
    pub once-clear : MetOnce H i w → meets_part H part i ≡ false
    unfolding meets_part
    once-clear once =
        any_none (λ x. eqb (x / 256) part && leb 2 (common H x i)) i (λ x lt.
        cases (eqb (x / 256) part && leb 2 (common H x i)) (λ y.
        let two : 2 ≤ common H x i = leb-true 2 (common H x i) (and_right (eqb (x / 256) part) (leb 2 (common H x i)) y) in
        let e : x / 256 ≡ part = eqb-true (x / 256) part (and_left (eqb (x / 256) part) (leb 2 (common H x i)) y) in
        let row : (k : ℕ) → k < H.rho → MarksHeld w (bit_for (entry H x k) x) =
        λ k h. s.each (bit_for (entry H x k) x) record { row = x; place = k; early = lt; mine = e; inside = h; is = refl } in
        absurd (omega (arith, shares-one o w x i (omega arith) row once))) (λ n. n))

    -- and where it does none is met at two of its columns
    pub clear-once : meets_part H part i ≡ false → MetOnce H i w
    unfolding MetOnce meets_part common
    clear-once f q q' lt h r e e' =
        let a = s.only (bit_for (entry H i q) r) e in
        let b = s.only (bit_for (entry H i q') r) e' in
        let x = a.row in
        let row : b.row ≡ x = omega (arith, a.is, b.is, a.mine, b.mine) in
        let col : entry H i q ≡ entry H x a.place = omega (arith, a.is) in
        let col' : entry H i q' ≡ entry H x b.place = subst (λ (y : ℕ). entry H i q' ≡ entry H y b.place) row (omega (arith, b.is)) in
        let p = has-at x a.place (entry H i q) a.inside col in
        let p' = has-at x b.place (entry H i q') b.inside col' in
        let two : 2 ≤ common H i x = sum-two H.rho (λ k. has H x (entry H i k)) q q' (omega arith) h (λ z. omega arith) p p' in
        let shared : 2 ≤ common H x i = subst (λ (y : ℕ). 2 ≤ y) (common-sym H i x) two in
        never (sym (any_at (λ y. eqb (y / 256) part && leb 2 (common H y i)) i x a.early
        (and_both (eqb (x / 256) part) (leb 2 (common H x i)) (eq-eqb (x / 256) part a.mine) (le-leb 2 (common H x i) shared))) ∙ f)
