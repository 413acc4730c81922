-- The matrix check in its plain reading: `check_of H` is the verdict that `Reads H` gives the matrix H, and no other verdict is.
--   sizes-say, sizes-fit           == what the test of the sizes says, both ways
--   entry-says, entry-clear        == the test of refusal 3: what it says where it passes, and where it fails
--   weight-says, weight-clear      == the test of refusal 4: what it says where it passes, and where it fails
--   none-says, none-clear          == the test for a column that weighs gamma: what it says where it passes, and where it fails
--   none_passes, none-fails        == and what makes it pass and fail
--   overlap-says, overlap-clear    == the test of refusal 5: what it says where it passes, and where it fails
--   entries, weights, overlaps     == the tests of refusals 3, 4 and 5 decide their statements
--   clear-below, clear-ascending   == a list without a bad entry is rows of ascending column numbers below n
--   entries-clear, rows-clear      == and such rows have no bad entry
--   passes                         == a search of a test that decides a statement, which holds nowhere, lets the rest speak
--   accepts                        == a matrix to which no refusal applies is accepted
--   reads, reads_only              == the verdict of a matrix has its reading, and is the only one that has
--   accepted-is, is-accepted       == what an accepted matrix is, both ways
--   gamma-is-least                 == of an accepted matrix gamma is the smallest column weight
-- Assumes nothing.
use mathlib.Core.Path.{◌≡◌, sym, ap, subst, ◌∙◌}
use mathlib.Core.Bool.{Bool, true, false, ◌&&◌}
use mathlib.Core.Logic.{◌⊎◌, inl, inr}
use Prim.Native.Nat.{ℕ, suc, ◌+◌, ◌*◌, ◌-◌, ◌/◌, ◌%◌, ◌≤◌, ◌<◌}
use native.Mathlib.Nat.{div-add-mod', div-lt_iff_lt-mul, mod-lt}
use native.Mathlib.Decide.{ℕ_discrete, dec_lt}
use native.Mathlib.Omega.{arith}
use borrow.Author.Tests.{ltb-true, leb-true, eqb-true, not-true, not-false, lt-ltb, le-ltb, le-leb, eq-eqb, ne_eqb}
use lib.Arith.{digits_mod}
use lib.Dec.{ltb, leb, eqb}
use lib.ListN.{length, get_or}
use Rattle.counting.specs.Paper.Search.{first, FirstAt}
use Rattle.counting.proofs.Searches.{never, cases, and_left, and_right, and_both, any_at, any_found, first-none, first-unique}
use Rattle.counting.proofs.Decisions.{Decides, test-fails, found-or-missed}
use Rattle.answers.specs.Paper.Answers.{Verdict, accepted, refused, refuse_at}
use Rattle.answers.proofs.Verdicts.{not-accepted}
use Rattle.matrix.specs.Paper.Code.{Matrix, entry, weight, common}
use Rattle.matrix.specs.Paper.Check.{within, sizes_fit, bad_entry, bad_weight, no_least, overlapping, list_of, check_of}
use Rattle.matrix.specs.Paper.PlainCheck.{Sizes, BadEntry, BadWeight, Least, Overlap, Never, Rows, Accepted}
use Rattle.matrix.specs.Paper.PlainCheck.{Reads, sizes_out, length_wrong, entry_bad, weight_bad, weight_none, rows_overlap, fine}
use Rattle.matrix.proofs.Rows.{stands}

-- a number in its range
in-range : (lo x hi : ℕ) → lo ≤ x → x ≤ hi → within lo x hi ≡ true
in-range lo x hi l h = and_both (leb lo x) (leb x hi) (le-leb lo x l) (le-leb x hi h)

range-least : (lo x hi : ℕ) → within lo x hi ≡ true → lo ≤ x
range-least lo x hi e = leb-true lo x (and_left (leb lo x) (leb x hi) e)

range-most : (lo x hi : ℕ) → within lo x hi ≡ true → x ≤ hi
range-most lo x hi e = leb-true x hi (and_right (leb lo x) (leb x hi) e)

out_of_range : (lo x hi : ℕ) → within lo x hi ≡ false → (x < lo) ⊎ (hi < x)
out_of_range lo x hi e =
    elim (dec_lt x lo) [
      | yes l ↦ inl l
      | no g ↦
          elim (dec_lt hi x) [ yes l ↦ inr l | no f ↦ absurd (never (sym (in-range lo x hi (omega arith) (omega arith)) ∙ e)) ]
    ]

-- a search of a test that decides a statement: its refusal is given at the first place, or passed
module _ {t : ℕ → Bool} {P : ℕ → Type 0} (d : Decides t P) where
  refuses : (k b x : ℕ) (v : Verdict) → FirstAt P b x → refuse_at k (first t b) b v ≡ refused k x
  refuses k b x v f = rw (first-unique t b x d.says d.clear f, lt-ltb x b f.below)

  -- where the statement holds nowhere, the rest speaks
  pub passes : (k b : ℕ) (v : Verdict) → Never P b → refuse_at k (first t b) b v ≡ v
  passes k b v h = rw (first-none t b (λ x l. test-fails d x (h x l)), le-ltb b b (omega arith))

module _ (H : Matrix) where
  -- what the test of the sizes says, both ways
  pub sizes-say : sizes_fit H ≡ true → Sizes H
  unfolding sizes_fit
  sizes-say e =
      let n' = and_left (within 2 H.n 1023) _ e in
      let e₁ = and_right (within 2 H.n 1023) _ e in
      let m' = and_left (within 1 H.m 1023) _ e₁ in
      let e₂ = and_right (within 1 H.m 1023) _ e₁ in
      let rho' = and_left (within 2 H.rho 32) _ e₂ in
      let e₃ = and_right (within 2 H.rho 32) _ e₂ in
      let gamma' = and_left (within 1 H.gamma 32) _ e₃ in
      record {
        n_least = range-least 2 H.n 1023 n';
        n_most = range-most 2 H.n 1023 n';
        m_least = range-least 1 H.m 1023 m';
        m_most = range-most 1 H.m 1023 m';
        rho_least = range-least 2 H.rho 32 rho';
        rho_most = range-most 2 H.rho 32 rho';
        gamma_least = range-least 1 H.gamma 32 gamma';
        gamma_most = range-most 1 H.gamma 32 gamma';
        product = leb-true (H.n * H.gamma) (H.m * H.rho) (and_right (within 1 H.gamma 32) _ e₃);
      }

  pub sizes-fit : Sizes H → sizes_fit H ≡ true
  unfolding sizes_fit
  sizes-fit s =
      and_both _ _ (in-range 2 H.n 1023 s.n_least s.n_most)
      (and_both _ _ (in-range 1 H.m 1023 s.m_least s.m_most)
      (and_both _ _ (in-range 2 H.rho 32 s.rho_least s.rho_most)
      (and_both _ _ (in-range 1 H.gamma 32 s.gamma_least s.gamma_most) (le-leb _ _ s.product))))

  -- refusal 3
  pub entry-says : (p : ℕ) → bad_entry H p ≡ true → BadEntry H p
  unfolding bad_entry
  entry-says p e =
      let x : ℕ = get_or H.list p 0 in
      let b : ℕ = get_or H.list (p - 1) 0 in
      cases (leb H.n x) (λ y. inl (leb-true H.n x y))
      (λ o.
      let e' : (ltb 0 (p % H.rho) && leb x b) ≡ true = rw o at e in
      inr (ltb-true 0 (p % H.rho) (and_left _ (leb x b) e'), leb-true x b (and_right (ltb 0 (p % H.rho)) _ e')))

  pub entry-clear : (p : ℕ) → bad_entry H p ≡ false → BadEntry H p → ⊥
  unfolding bad_entry
  entry-clear p e (inl h) = never (rw (le-leb H.n (get_or H.list p 0) h) at e)
  entry-clear p e (inr h) =
      cases (leb H.n (get_or H.list p 0)) (λ y. never (rw y at e))
      (λ o. never (rw (o, lt-ltb 0 (p % H.rho) h.0, le-leb (get_or H.list p 0) (get_or H.list (p - 1) 0) h.1) at e))

  -- refusal 4
  pub weight-says : (j : ℕ) → bad_weight H j ≡ true → BadWeight H j
  unfolding bad_weight
  weight-says j e = out_of_range H.gamma (weight H j) 32 (not-true _ e)

  pub weight-clear : (j : ℕ) → bad_weight H j ≡ false → BadWeight H j → ⊥
  unfolding bad_weight
  weight-clear j e (inl h) = omega (arith, range-least H.gamma (weight H j) 32 (not-false _ e))
  weight-clear j e (inr h) = omega (arith, range-most H.gamma (weight H j) 32 (not-false _ e))

  pub none-says : no_least H ≡ true → Never (Least H) H.n
  unfolding no_least
  none-says e j l w = never (sym (any_at (λ x. eqb (weight H x) H.gamma) H.n j l (eq-eqb (weight H j) H.gamma w)) ∙ not-true _ e)

  pub none-clear : no_least H ≡ false → (j : ℕ) × (j < H.n) × Least H j
  unfolding no_least
  none-clear e =
      let f = any_found (λ x. eqb (weight H x) H.gamma) H.n (not-false _ e) in
      (f.0, f.1, eqb-true (weight H f.0) H.gamma f.2)

  pub none_passes : Never (Least H) H.n → no_least H ≡ true
  none_passes h = cases (no_least H) (λ y. y) (λ o. let c = none-clear o in absurd (h c.0 c.1 c.2))

  pub none-fails : (j : ℕ) × (j < H.n) × Least H j → no_least H ≡ false
  none-fails c = cases (no_least H) (λ y. absurd (none-says y c.0 c.1 c.2)) (λ o. o)

  -- refusal 5
  pub overlap-says : (i : ℕ) → overlapping H i ≡ true → Overlap H i
  unfolding overlapping
  overlap-says i e =
      let f = any_found (λ i'. ltb i i' && leb 2 (common H i i')) H.m e in
      (f.0, ltb-true i f.0 (and_left _ _ f.2), f.1, leb-true 2 (common H i f.0) (and_right (ltb i f.0) _ f.2))

  pub overlap-clear : (i : ℕ) → overlapping H i ≡ false → Overlap H i → ⊥
  unfolding overlapping
  overlap-clear i e o =
      let both = and_both _ _ (lt-ltb i o.0 o.1) (le-leb 2 (common H i o.0) o.3) in
      never (sym (any_at (λ i'. ltb i i' && leb 2 (common H i i')) H.m o.0 o.2 both) ∙ e)

  -- the tests of refusals 3, 4 and 5 decide their statements
  pub entries : Decides (bad_entry H) (BadEntry H)
  entries = record { says = entry-says; clear = entry-clear }

  pub weights : Decides (bad_weight H) (BadWeight H)
  weights = record { says = weight-says; clear = weight-clear }

  pub overlaps : Decides (overlapping H) (Overlap H)
  overlaps = record { says = overlap-says; clear = overlap-clear }

  -- what the check says, one condition after the other
  says-sizes : (Sizes H → ⊥) → check_of H ≡ refused 1 0
  unfolding check_of
  says-sizes h = cases (sizes_fit H) (λ y. absurd (h (sizes-say y))) (λ o. rw o)

  module _ (s : Sizes H) where
    says-length : (length H.list ≡ H.m * H.rho → ⊥) → check_of H ≡ refused 2 0
    unfolding check_of
    says-length h = rw (sizes-fit s, ne_eqb (length H.list) (H.m * H.rho) h)

    module _ (whole : length H.list ≡ H.m * H.rho) where
      says-list : check_of H ≡ list_of H
      unfolding check_of
      says-list = rw (sizes-fit s, eq-eqb (length H.list) (H.m * H.rho) whole)

      says-entry : (x : ℕ) → FirstAt (BadEntry H) (length H.list) x → check_of H ≡ refused 3 x
      unfolding list_of
      says-entry x f = says-list ∙ refuses entries 3 _ x _ f

      module _ (clear : Never (BadEntry H) (length H.list)) where
        says-weight : (x : ℕ) → FirstAt (BadWeight H) H.n x → check_of H ≡ refused 4 x
        unfolding list_of
        says-weight x f = says-list ∙ passes entries 3 _ _ clear ∙ refuses weights 4 _ x _ f

        module _ (even : Never (BadWeight H) H.n) where
          says_none : Never (Least H) H.n → check_of H ≡ refused 4 H.n
          unfolding list_of
          says_none h = says-list ∙ passes entries 3 _ _ clear ∙ passes weights 4 _ _ even ∙ rw (none_passes h)

          module _ (least : (j : ℕ) × (j < H.n) × Least H j) where
            says-rest : check_of H ≡ refuse_at 5 (first (overlapping H) H.m) H.m accepted
            unfolding list_of
            says-rest = says-list ∙ passes entries 3 _ _ clear ∙ passes weights 4 _ _ even ∙ rw (none-fails least)

            says-overlap : (x : ℕ) → FirstAt (Overlap H) H.m x → check_of H ≡ refused 5 x
            says-overlap x f = says-rest ∙ refuses overlaps 5 _ x _ f

            says-accepted : Never (Overlap H) H.m → check_of H ≡ accepted
            says-accepted apart = says-rest ∙ passes overlaps 5 _ _ apart

  -- a list without a bad entry is rows of ascending column numbers below n
  module _ (whole : length H.list ≡ H.m * H.rho) (clear : Never (BadEntry H) (length H.list)) where
    -- a list without a bad entry is rows of ascending column numbers below n
    pub clear-below : (i k : ℕ) → i < H.m → k < H.rho → entry H i k < H.n
    unfolding entry
    clear-below i k l h =
        elim (dec_lt (get_or H.list (i * H.rho + k) 0) H.n)
        [ yes y ↦ y | no f ↦ absurd (clear (i * H.rho + k) (stands H whole i k l h) (inl (omega arith))) ]

    pub clear-ascending : (i k : ℕ) → i < H.m → suc k < H.rho → entry H i k < entry H i (suc k)
    unfolding entry
    clear-ascending i k l h =
        let p : ℕ = i * H.rho + suc k in
        let before : p - 1 ≡ i * H.rho + k = omega arith in
        elim (dec_lt (get_or H.list (i * H.rho + k) 0) (get_or H.list p 0)) [
          | yes y ↦ y
          | no f ↦
              absurd
              (clear p (stands H whole i (suc k) l h)
              (inr (omega (arith, digits_mod i h), omega (arith, ap (λ (x : ℕ). get_or H.list x 0) before))))
        ]

  -- and such rows have no bad entry: p is entry p % rho of row p / rho
  pub entries-clear : Sizes H → length H.list ≡ H.m * H.rho → ((i k : ℕ) → i < H.m → k < H.rho → entry H i k < H.n)
      → ((i k : ℕ) → i < H.m → suc k < H.rho → entry H i k < entry H i (suc k)) → Never (BadEntry H) (length H.list)
  unfolding entry
  entries-clear s whole below up p l bad = go bad
    where
      some : 0 < H.rho
      some = omega (arith, s.rho_least)

      row : p / H.rho < H.m
      row = (div-lt_iff_lt-mul {k = H.rho} {x = p} {y = H.m} some).1 (omega (arith, whole))

      go : BadEntry H p → ⊥
      go (inl h) = omega (arith, below (p / H.rho) (p % H.rho) row (mod-lt p some), ap (λ (x : ℕ). get_or H.list x 0) (div-add-mod' p H.rho))
      go (inr h) =
          let k : ℕ = p % H.rho - 1 in
          let here : p / H.rho * H.rho + suc k ≡ p = omega (arith, div-add-mod' p H.rho, h.0) in
          let before : p / H.rho * H.rho + k ≡ p - 1 = omega (arith, here) in
          omega (
            arith,
            up (p / H.rho) k row (omega (arith, mod-lt p some, h.0)),
            ap (λ (x : ℕ). get_or H.list x 0) here,
            ap (λ (x : ℕ). get_or H.list x 0) before,
            h.1,
          )

  pub rows-clear : Sizes H → Rows H → Never (BadEntry H) (length H.list)
  rows-clear s r = entries-clear s r.whole r.below r.ascending

  -- no refusal applies: the matrix is accepted
  pub accepts : Sizes H → length H.list ≡ H.m * H.rho → Never (BadEntry H) (length H.list) → Never (BadWeight H) H.n
      → (j : ℕ) × (j < H.n) × Least H j → Never (Overlap H) H.m → Accepted H
  accepts s whole clear even least apart =
      record {
        sizes = s;
        rows =
            record {
              whole = whole;
              below = clear-below whole clear;
              ascending = clear-ascending whole clear;
              apart = λ i i' l h. elim (dec_lt (common H i i') 2) [ yes y ↦ omega arith | no f ↦ absurd (apart i (omega arith) (i', l, h, omega arith)) ];
            };
        weights = λ j l. (
          elim (dec_lt (weight H j) H.gamma) [ yes b ↦ absurd (even j l (inl b)) | no f ↦ omega arith ],
          elim (dec_lt 32 (weight H j)) [ yes b ↦ absurd (even j l (inr b)) | no f ↦ omega arith ],
        );
        least = least;
      }

-- no column of an accepted matrix lies outside
inside-all : (H : Matrix) → Accepted H → Never (BadWeight H) H.n
inside-all H a j l (inl h) = omega (arith, (a.weights j l).0)
inside-all H a j l (inr h) = omega (arith, (a.weights j l).1)

-- the verdict of a matrix is the only one that has its reading
pub reads_only : (H : Matrix) (v : Verdict) → Reads H v → v ≡ check_of H
reads_only H _ (sizes_out h) = sym (says-sizes H h)
reads_only H _ (length_wrong s h) = sym (says-length H s h)
reads_only H _ (entry_bad s l f) = sym (says-entry H s l _ f)
reads_only H _ (weight_bad s l c f) = sym (says-weight H s l c _ f)
reads_only H _ (weight_none s l c e h) = sym (says_none H s l c e h)
reads_only H _ (rows_overlap s l c e w f) = sym (says-overlap H s l c e w _ f)
reads_only H _ (fine a) =
    sym
    (says-accepted H a.sizes a.rows.whole (rows-clear H a.sizes a.rows) (inside-all H a) a.least
    (λ i l o. omega (arith, a.rows.apart i o.0 o.1 o.2, o.3)))

-- the verdict that is given has its reading
decides : (H : Matrix) → (v : Verdict) × Reads H v
decides H =
    cases (sizes_fit H)
    (λ y.
    let s : Sizes H = sizes-say H y in
    elim (ℕ_discrete (length H.list) (H.m * H.rho)) [
      | no f ↦ (refused 2 0, length_wrong s f)
      | yes l ↦
          elim (found-or-missed (entries H) (length H.list)) [
            | inl f ↦ (_, entry_bad s l f)
            | inr c ↦
                elim (found-or-missed (weights H) H.n) [
                  | inl f ↦ (_, weight_bad s l c f)
                  | inr e ↦
                      cases (no_least H) (λ t. (_, weight_none s l c e (none-says H t)))
                      (λ t.
                      elim (found-or-missed (overlaps H) H.m)
                      [ inl f ↦ (_, rows_overlap s l c e (none-clear H t) f) | inr a ↦ (accepted, fine (accepts H s l c e (none-clear H t) a)) ])
                ]
          ]
    ])
    (λ o. (refused 1 0, sizes_out (λ s. never (sym (sizes-fit H s) ∙ o))))

-- the verdict of a matrix has its reading
pub reads : (H : Matrix) → Reads H (check_of H)
reads H = subst (Reads H) (reads_only H (decides H).0 (decides H).1) (decides H).1

-- a matrix is accepted exactly where it has what an accepted matrix has
only-fine : {H : Matrix} {v : Verdict} → Reads H v → v ≡ accepted → Accepted H
only-fine (sizes_out h) e = absurd (not-accepted e)
only-fine (length_wrong s h) e = absurd (not-accepted e)
only-fine (entry_bad s l f) e = absurd (not-accepted e)
only-fine (weight_bad s l c f) e = absurd (not-accepted e)
only-fine (weight_none s l c w h) e = absurd (not-accepted e)
only-fine (rows_overlap s l c w h f) e = absurd (not-accepted e)
only-fine (fine a) e = a

-- what an accepted matrix is, both ways
pub accepted-is : (H : Matrix) → check_of H ≡ accepted → Accepted H
accepted-is H e = only-fine (reads H) e

pub is-accepted : (H : Matrix) → Accepted H → check_of H ≡ accepted
is-accepted H a = sym (reads_only H accepted (fine a))

-- of an accepted matrix gamma is the smallest column weight: no column weighs less, and some column weighs as much
pub gamma-is-least : (H : Matrix) → Accepted H → ((j : ℕ) → j < H.n → H.gamma ≤ weight H j) × ((j : ℕ) × (j < H.n) × (weight H j ≡ H.gamma))
gamma-is-least H a = (λ j l. (a.weights j l).0, a.least)
