-- Laws of searches: `any` and `first`.
--   never                                 == a test that passes does not fail
--   cases                                 == a test is true or false, with the equation
--   and_left, and_right                   == where a conjunction passes both parts do
--   and_both                              == where both parts pass it passes
--   or_left, or_right                     == where a disjunction fails both parts do
--   or-neither                            == where both parts fail it fails
--   any_step                              == `any` below one place more is `any` before it or the test there
--   any_none                              == `any` fails where no place passes
--   any_at                                == it passes where some place does
--   any_found                             == where `any` passes some place does
--   any-clear                             == where `any` fails no place passes
--   first-none                            == `first` is the bound where no place passes
--   first-at                              == it is the place that passes after places that do not
--   first-is                              == it is at most the bound, its place passes where it is below, and none before it does
--   first-le, first_holds, first-before   == what is known of a first place, in three parts
--   first-clear                           == no place passes where the first place is the bound
--   first_reads                           == below the bound it is the first place at which the statement holds that the test decides
--   first-unique                          == the first place of a statement that the test decides is what `first` gives
--   any-cong, first_cong                  == tests that agree below the bound give the same
-- Assumes nothing.
use mathlib.Core.Path.{◌≡◌, refl, sym, ap, subst, ◌∙◌}
use mathlib.Core.Bool.{Bool, true, false, ◌&&◌, ◌||◌, or-true}
use mathlib.Core.Logic.{⊎_elim}
use Prim.Native.Nat.{ℕ, zero, suc, ◌+◌, ◌≤◌, ◌<◌}
use native.Mathlib.Nat.{le_of_suc-le-suc, not-suc-le-zero, eq-or-lt_of_le}
use native.Mathlib.Numerals.{add-one}
use native.Mathlib.Decide.{dec_lt}
use native.Mathlib.Omega.{arith}
use lib.Dec.{T}
use Rattle.counting.specs.Paper.Search.{any_below, first, FirstAt}

-- a test that passes does not fail
pub never : true ≡ false → ⊥
never e = subst T e tt

-- a test is true or false, with the equation
pub cases {ℓ} : {A : Type ℓ} (b : Bool) → (b ≡ true → A) → (b ≡ false → A) → A
cases true f g = f refl
cases false f g = g refl

-- what a conjunction says of its parts
pub and_left : (a b : Bool) → (a && b) ≡ true → a ≡ true
and_left true b e = refl
and_left false b e = e

pub and_right : (a b : Bool) → (a && b) ≡ true → b ≡ true
and_right true b e = e
and_right false b e = absurd (never (sym e))

-- where both parts pass it passes
pub and_both : (a b : Bool) → a ≡ true → b ≡ true → (a && b) ≡ true
and_both a b e f = rw (e, f)

-- what a disjunction that fails says of its parts
pub or_left : (a b : Bool) → (a || b) ≡ false → a ≡ false
or_left true b e = e
or_left false b e = refl

pub or_right : (a b : Bool) → (a || b) ≡ false → b ≡ false
or_right true b e = absurd (never e)
or_right false b e = e

-- where both parts fail it fails
pub or-neither : (a b : Bool) → a ≡ false → b ≡ false → (a || b) ≡ false
or-neither a b e f = rw (e, f)

module _ (t : ℕ → Bool) where
  -- one place more
  pub any_step : (k : ℕ) → any_below t (k + 1) ≡ any_below t k || t k
  unfolding any_below
  any_step k = ap (any_below t) (add-one k)

  -- `any` fails where no place passes
  pub any_none : (k : ℕ) → ((i : ℕ) → i < k → t i ≡ false) → any_below t k ≡ false
  unfolding any_below
  any_none zero h = refl
  any_none (suc k) h = rw (any_none k (λ i l. h i (omega arith)), h k (omega arith))

  -- it passes where some place does
  pub any_at : (k i : ℕ) → i < k → t i ≡ true → any_below t k ≡ true
  unfolding any_below
  any_at zero i l e = absurd (not-suc-le-zero l)
  any_at (suc k) i l e =
      ⊎_elim (λ q. let h : t k ≡ true = ap t (sym q) ∙ e in rw h (or-true (any_below t k))) (λ m. rw (any_at k i m e)) (eq-or-lt_of_le (le_of_suc-le-suc l))

  -- where `any` passes some place does
  pub any_found : (k : ℕ) → any_below t k ≡ true → (i : ℕ) × (i < k) × (t i ≡ true)
  unfolding any_below
  any_found zero e = absurd (never (sym e))
  any_found (suc k) e =
      cases (any_below t k) (λ y. let f : (i : ℕ) × (i < k) × (t i ≡ true) = any_found k y in (f.0, omega (arith, f.1), f.2))
      (λ o. (k, omega arith, rw o at e))

  -- where `any` fails no place passes
  pub any-clear : (k : ℕ) → any_below t k ≡ false → (i : ℕ) → i < k → t i ≡ false
  any-clear k e i l = cases (t i) (λ y. absurd (never (sym (any_at k i l y) ∙ e))) (λ o. o)

  -- nothing passes: the bound itself
  pub first-none : (k : ℕ) → ((i : ℕ) → i < k → t i ≡ false) → first t k ≡ k
  unfolding first
  first-none zero h = refl
  first-none (suc k) h = rw (any_none k (λ i l. h i (omega arith)), h k (omega arith))

  -- the place that passes after places that do not
  pub first-at : (k i : ℕ) → i < k → ((j : ℕ) → j < i → t j ≡ false) → t i ≡ true → first t k ≡ i
  unfolding first
  first-at zero i l h e = absurd (not-suc-le-zero l)
  first-at (suc k) i l h e =
      ⊎_elim (λ q. let y : t k ≡ true = ap t (sym q) ∙ e in rw (any_none k (λ j m. h j (omega arith)), y) (sym q))
      (λ m. rw (any_at k i m e) (first-at k i m h e)) (eq-or-lt_of_le (le_of_suc-le-suc l))

  -- what is known of a first place
  pub first-is : (k : ℕ) → (first t k ≤ k) × (first t k < k → t (first t k) ≡ true) × ((i : ℕ) → i < first t k → t i ≡ false)
  unfolding first
  first-is zero = (omega arith, λ l. absurd (not-suc-le-zero l), λ i l. absurd (not-suc-le-zero l))
  first-is (suc k) =
      cases (any_below t k)
      (λ y. rw y (
      let p = first-is k in
      let f = any_found k y in
      let low : first t k < k = elim (dec_lt (first t k) k) [ yes l ↦ l | no n ↦ absurd (never (sym f.2 ∙ p.2 f.0 (omega (arith, f.1, p.0)))) ] in
      (omega (arith, low), λ l. p.1 low, p.2)))
      (λ o. rw o (
      cases (t k)
      (λ y. rw y (omega arith, λ l. y, λ i l. any-clear k o i l))
      (λ n. rw n (omega arith, λ l. absurd (omega arith), λ i l. ⊎_elim (λ q. ap t q ∙ n) (λ m. any-clear k o i m) (eq-or-lt_of_le (le_of_suc-le-suc l))))))

  -- what is known of a first place, in three parts
  pub first-le : (k : ℕ) → first t k ≤ k
  first-le k = (first-is k).0

  pub first_holds : (k : ℕ) → first t k < k → t (first t k) ≡ true
  first_holds k = (first-is k).1

  pub first-before : (k i : ℕ) → i < first t k → t i ≡ false
  first-before k i l = (first-is k).2 i l

  -- no place passes where the first place is the bound
  pub first-clear : (k : ℕ) → k ≤ first t k → (i : ℕ) → i < k → t i ≡ false
  first-clear k h i l = first-before k i (omega arith)

  -- the first place at which a statement holds that the test decides
  pub first_reads : {P : ℕ → Type 0} (k : ℕ) → ((i : ℕ) → t i ≡ true → P i) → ((i : ℕ) → t i ≡ false → P i → ⊥) → first t k < k → FirstAt P k (first t k)
  first_reads k yes' no' l =
      record { below = l; here = yes' (first t k) (first_holds k l); before = λ y m. no' y (first-before k y m) }

  -- the first place of a statement that the test decides is what `first` gives
  pub first-unique : {P : ℕ → Type 0} (k x : ℕ) → ((i : ℕ) → t i ≡ true → P i) → ((i : ℕ) → t i ≡ false → P i → ⊥) → FirstAt P k x → first t k ≡ x
  first-unique k x yes' no' f =
      first-at k x f.below (λ j l. cases (t j) (λ y. absurd (f.before j l (yes' j y))) (λ n. n))
      (cases (t x) (λ y. y) (λ n. absurd (no' x n f.here)))

-- tests that agree below the bound
pub any-cong : (t u : ℕ → Bool) (k : ℕ) → ((i : ℕ) → i < k → t i ≡ u i) → any_below t k ≡ any_below u k
unfolding any_below
any-cong t u zero h = refl
any-cong t u (suc k) h = rw (any-cong t u k (λ i l. h i (omega arith)), h k (omega arith))

pub first_cong : (t u : ℕ → Bool) (k : ℕ) → ((i : ℕ) → i < k → t i ≡ u i) → first t k ≡ first u k
unfolding first
first_cong t u zero h = refl
first_cong t u (suc k) h =
    rw (any-cong t u k (λ i l. h i (omega arith)), first_cong t u k (λ i l. h i (omega arith)), h k (omega arith))
