-- Laws of lists one after another, and of lists of numbers compared.
--   length-joined   == as long as its parts together
--   get_or-joined   == element q of part j stands q places after the parts before j
--   joined-cong     == equal parts make equal lists
--   length-rows     == k parts of w elements each have k * w together
--   get_or-rows     == and element q of part j stands at j * w + q
--   same-list       == lists that compare equal are equal
--   list_same       == and equal lists compare equal
-- Assumes nothing.
use mathlib.Core.Path.{◌≡◌, refl, sym, ap, ap₂, subst, ◌∙◌}
use mathlib.Core.Bool.{true}
use mathlib.Core.List.{List, [], ◌∷◌}
use Prim.Native.Nat.{ℕ, zero, suc, ◌+◌, ◌*◌, ◌<◌}
use native.Mathlib.Nat.{not-suc-le-zero}
use native.Mathlib.Decide.{ℕ_discrete}
use native.Mathlib.Omega.{arith}
use lib.Dec.{eqb}
use lib.ListN.{length, get_or, length-append, get_or-append}
use lib.Seq.{get_or-append-add}
use borrow.Author.Tests.{eq-eqb, eqb-true}
use Rattle.counting.specs.Paper.Sum.{sum_below}
use Rattle.counting.specs.Paper.Joined.{joined, same_list}
use Rattle.counting.proofs.Sums.{sum-next, sum-cong, sum-const}
use Rattle.counting.proofs.Searches.{never, and_left, and_right, and_both}

module _ {A : Type 0} (f : ℕ → List A) where
  -- as long as its parts together
  pub length-joined : (k : ℕ) → length (joined k f) ≡ sum_below k (λ i. length (f i))
  unfolding joined sum_below
  length-joined zero = refl
  length-joined (suc k) = length-append (joined k f) (f k) ∙ omega (arith, length-joined k)

  -- element q of part j stands q places after the parts before j
  pub get_or-joined : (k j q : ℕ) (d : A) → j < k → q < length (f j) → get_or (joined k f) (sum_below j (λ i. length (f i)) + q) d ≡ get_or (f j) q d
  unfolding joined
  get_or-joined zero j q d l h = absurd (not-suc-le-zero l)
  get_or-joined (suc k) j q d l h =
      elim (ℕ_discrete j k) [
        | yes e ↦
            rw (e, sym (length-joined k)) (get_or-append-add (joined k f) (f k) q d)
        | no ne ↦
            get_or-append (joined k f) (f k) d (sum_below j (λ i. length (f i)) + q) (within (omega arith)) ∙ get_or-joined k j q d (omega arith) h
      ]
    where
      within : j < k → sum_below j (λ i. length (f i)) + q < length (joined k f)
      within m = omega (arith, length-joined k, sum-next j k (λ i. length (f i)) m)

-- ---- parts that are equal, and parts of one length

-- equal parts make equal lists
pub joined-cong : {A : Type 0} (k : ℕ) (f g : ℕ → List A) → ((i : ℕ) → i < k → f i ≡ g i) → joined k f ≡ joined k g
unfolding joined
joined-cong zero f g h = refl
joined-cong (suc k) f g h = rw (joined-cong k f g (λ i l. h i (omega arith)), h k (omega arith))

-- k parts of w elements each have k * w together
pub length-rows : {A : Type 0} (k w : ℕ) (f : ℕ → List A) → ((i : ℕ) → i < k → length (f i) ≡ w) → length (joined k f) ≡ k * w
length-rows k w f h = length-joined f k ∙ sum-cong k h ∙ sum-const k w

-- and element q of part j stands at j * w + q
pub get_or-rows : {A : Type 0} (k w : ℕ) (f : ℕ → List A) (d : A) → ((i : ℕ) → i < k → length (f i) ≡ w)
    → (j q : ℕ) → j < k → q < w → get_or (joined k f) (j * w + q) d ≡ get_or (f j) q d
get_or-rows k w f d h j q l m =
    let e : sum_below j (λ i. length (f i)) ≡ j * w = sum-cong j (λ i b. h i (omega arith)) ∙ sum-const j w in
    ap (λ (x : ℕ). get_or (joined k f) (x + q) d) (sym e) ∙ get_or-joined f k j q d l (omega (arith, h j l))

-- ---- lists compared

-- lists that compare equal are equal
pub same-list : (a b : List ℕ) → same_list a b ≡ true → a ≡ b
unfolding same_list
same-list [] [] e = refl
same-list [] (y ∷ b) e = absurd (never (sym e))
same-list (x ∷ a) [] e = absurd (never (sym e))
same-list (x ∷ a) (y ∷ b) e =
    ap₂ ◌∷◌ (eqb-true x y (and_left (eqb x y) (same_list a b) e)) (same-list a b (and_right (eqb x y) (same_list a b) e))

-- a list compares equal to itself
list-self : (a : List ℕ) → same_list a a ≡ true
unfolding same_list
list-self [] = refl
list-self (x ∷ a) = and_both (eqb x x) (same_list a a) (eq-eqb x x refl) (list-self a)

-- and equal lists compare equal
pub list_same : (a b : List ℕ) → a ≡ b → same_list a b ≡ true
list_same a b e = subst (λ (x : List ℕ). same_list a x ≡ true) e (list-self a)
