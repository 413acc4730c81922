-- Matrices of equal columns: what their check accepts is accepted still, and the accepted ones with m × rho = n × gamma are these.
--   equal-weights    == every column of a matrix that it accepts has gamma ones
--   sizes-alike      == the test of the sizes says of it what it said
--   equal-product    == and m × rho = n × gamma
--   equal-accepted   == it is accepted
--   accepted-equal   == an accepted matrix with m × rho = n × gamma passes the check of equal columns
--   check-equal      == so the check says of a matrix accepted so far what it said: the one law by which every call's answer stays
-- Assumes nothing.
use mathlib.Core.Logic.{inl, inr}
use mathlib.Core.Path.{◌≡◌, refl, sym, ◌∙◌}
use mathlib.Core.Bool.{Bool, true, not}
use Prim.Native.Nat.{ℕ, ◌*◌, ◌<◌}
use native.Mathlib.Decide.{ℕ_discrete}
use native.Mathlib.Omega.{arith}
use borrow.Author.Tests.{eqb-true, eqb-false, not-true, not-false, ltb-false, le-leb, eq-eqb}
use lib.Dec.{eqb, ltb}
use lib.ListN.{length}
use Rattle.counting.specs.Paper.Search.{first}
use Rattle.counting.proofs.Searches.{and_left, and_right, and_both}
use Rattle.counting.proofs.Decisions.{Decides, missed}
use Rattle.answers.specs.Paper.Answers.{Verdict, accepted, refuse_at}
use Rattle.answers.proofs.Verdicts.{passed}
use Rattle.matrix.specs.Paper.Code.{Matrix, weight}
use Rattle.matrix.specs.Paper.Check.{within, sizes_fit, check_of}
use Rattle.matrix.specs.Paper.PlainCheck.{Sizes, BadEntry, BadWeight, Overlap, Never, Accepted}
use Rattle.matrix.specs.Paper.EqualWeights.{sizes_equal, off_weight, list_equal, check_equal}
use Rattle.matrix.proofs.PlainCheck.{passes, sizes-say, sizes-fit, entries, overlaps, rows-clear, accepts, accepted-is, is-accepted}
use Rattle.matrix.proofs.Weights.{weight-equal}

-- a chain that accepts has found nothing in its first search
none_found : {t : ℕ → Bool} {P : ℕ → Type 0} → Decides t P → (k b : ℕ) (v : Verdict) → refuse_at k (first t b) b v ≡ accepted → Never P b × (v ≡ accepted)
none_found {t} d k b v e =
    let p = passed (ltb (first t b) b) k (first t b) v e in (missed d b (first t b) refl (ltb-false (first t b) b p.0), p.1)

module _ (H : Matrix) where
  -- the test of equal weights decides whether a weight is another one
  offs : Decides (off_weight H) (λ j. weight H j ≡ H.gamma → ⊥)
  unfolding off_weight
  offs =
      record {
        says = λ j e. eqb-false (weight H j) H.gamma (not-true _ e);
        clear = λ j e h. h (eqb-true (weight H j) H.gamma (not-false _ e));
      }

  -- sizes that are equal fit
  sizes-equal : sizes_equal H ≡ true → (sizes_fit H ≡ true) × (H.m * H.rho ≡ H.n * H.gamma)
  unfolding sizes_equal sizes_fit
  sizes-equal e =
      let e₁ = and_right (within 2 H.n 1023) _ e in
      let e₂ = and_right (within 1 H.m 1023) _ e₁ in
      let e₃ = and_right (within 2 H.rho 32) _ e₂ in
      let product = eqb-true (H.m * H.rho) (H.n * H.gamma) (and_right (within 1 H.gamma 32) _ e₃) in
      let last = and_both _ _ (and_left (within 1 H.gamma 32) _ e₃) (le-leb (H.n * H.gamma) (H.m * H.rho) (omega (arith, product))) in (
        and_both _ _ (and_left (within 2 H.n 1023) _ e)
            (and_both _ _ (and_left (within 1 H.m 1023) _ e₁) (and_both _ _ (and_left (within 2 H.rho 32) _ e₂) last)),
        product,
      )

  -- what the check of equal columns leaves
  record Equal : Type 0 where
    fit : sizes_fit H ≡ true
    equal : sizes_equal H ≡ true
    product : H.m * H.rho ≡ H.n * H.gamma
    whole : length H.list ≡ H.m * H.rho
    clear : Never (BadEntry H) (length H.list)
    even : (j : ℕ) → j < H.n → weight H j ≡ H.gamma
    apart : Never (Overlap H) H.m

  equal-has : check_equal H ≡ accepted → Equal
  unfolding check_equal list_equal
  equal-has e =
      let sizes = passed (not (sizes_equal H)) 1 0 _ e in
      let lengths = passed (not (eqb (length H.list) (H.m * H.rho))) 2 0 _ sizes.1 in
      let bad = none_found (entries H) 3 (length H.list) _ lengths.1 in
      let off = none_found offs 4 H.n _ bad.1 in
      let fits = sizes-equal (not-false _ sizes.0) in
      record {
        fit = fits.0;
        equal = not-false _ sizes.0;
        product = fits.1;
        whole = eqb-true (length H.list) (H.m * H.rho) (not-false _ lengths.0);
        clear = bad.0;
        even = λ j l. elim (ℕ_discrete (weight H j) H.gamma) [ yes q ↦ q | no f ↦ absurd (off.0 j l f) ];
        apart = (none_found (overlaps H) 5 H.m accepted off.1).0;
      }

  -- every column of a matrix that it accepts has gamma ones
  pub equal-weights : check_equal H ≡ accepted → (j : ℕ) → j < H.n → weight H j ≡ H.gamma
  equal-weights e = (equal-has e).even

  -- the test of the sizes says of it what it said
  pub sizes-alike : check_equal H ≡ accepted → sizes_fit H ≡ sizes_equal H
  sizes-alike e = (equal-has e).fit ∙ sym (equal-has e).equal

  -- and m × rho = n × gamma
  pub equal-product : check_equal H ≡ accepted → H.m * H.rho ≡ H.n * H.gamma
  equal-product e = (equal-has e).product

  inside : Sizes H → (w : (j : ℕ) → j < H.n → weight H j ≡ H.gamma) → Never (BadWeight H) H.n
  inside s w j l (inl h) = omega (arith, w j l)
  inside s w j l (inr h) = omega (arith, w j l, s.gamma_most)

  -- it is accepted
  pub equal-accepted : check_equal H ≡ accepted → check_of H ≡ accepted
  equal-accepted e =
      let q = equal-has e in
      let s = sizes-say H q.fit in
      let some : 0 < H.n = omega (arith, s.n_least) in
      is-accepted H (accepts H s q.whole q.clear (inside s q.even) (0, some, q.even 0 some) q.apart)

  -- equal sizes
  equal-sizes : Sizes H → H.m * H.rho ≡ H.n * H.gamma → sizes_equal H ≡ true
  unfolding sizes_equal sizes_fit
  equal-sizes s p =
      let e = sizes-fit H s in
      let e₁ = and_right (within 2 H.n 1023) _ e in
      let e₂ = and_right (within 1 H.m 1023) _ e₁ in
      let e₃ = and_right (within 2 H.rho 32) _ e₂ in
      let last = and_both _ _ (and_left (within 1 H.gamma 32) _ e₃) (eq-eqb (H.m * H.rho) (H.n * H.gamma) p) in
      and_both _ _ (and_left (within 2 H.n 1023) _ e)
      (and_both _ _ (and_left (within 1 H.m 1023) _ e₁) (and_both _ _ (and_left (within 2 H.rho 32) _ e₂) last))

  -- an accepted matrix with m × rho = n × gamma passes the check of equal columns
  pub accepted-equal : check_of H ≡ accepted → H.m * H.rho ≡ H.n * H.gamma → check_equal H ≡ accepted
  unfolding check_equal list_equal
  accepted-equal e p =
      let a : Accepted H = accepted-is H e in
      rw (equal-sizes a.sizes p, eq-eqb (length H.list) (H.m * H.rho) a.rows.whole)
      (passes (entries H) 3 _ _ (rows-clear H a.sizes a.rows)
      ∙ passes offs 4 _ _ (λ j l f. f (weight-equal H a p j l))
      ∙ passes (overlaps H) 5 _ _ (λ i l o. omega (arith, a.rows.apart i o.0 o.1 o.2, o.3)))

  -- so the check says of a matrix accepted so far what it said
  pub check-equal : check_equal H ≡ accepted → check_of H ≡ check_equal H
  check-equal e = equal-accepted e ∙ sym e
