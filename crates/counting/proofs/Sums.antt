-- Laws of sums.
--   sum-cong                 == sums of equal terms are equal
--   sum-le                   == a sum of terms that are no larger is no larger
--   sum-zero                 == a sum of zeros is 0
--   sum_bound                == k terms of at most b each add up to at most k * b
--   sum-add                  == the sum of f i + g i is the sum of f and that of g
--   sum-mul, sum-mul-right   == a factor of every term is one of the sum
--   sum-swap                 == a double sum is the same in either order
--   sum-append               == a sum in two parts
--   sum-flat                 == a sum over m rows of rho terms each
--   sum-term                 == a term is at most the sum
--   sum-pos                  == a sum that is not 0 has a term that is not 0
--   sum_one                  == terms of at most 1 of which at most one is not 0 add up to at most 1
--   sum-two                  == a sum with two terms that are not 0 is at least 2
--   same_refl                == `same` of a number and itself is 1
--   same-ne                  == `same` of two different numbers is 0
--   sum-pick                 == the sum that picks one term
--   same-le                  == `same` is at most 1
--   same-pos                 == where `same` is not 0 the numbers are equal
--   same-sym                 == `same` is the same whichever number is named first
--   differ-eq, differ-ne     == `unequal` is 0 of equal numbers and 1 of different ones
--   differ-le                == `unequal` is at most 1
--   differ-zero              == where `unequal` is 0 the numbers are equal
--   differ-sym               == `unequal` is the same whichever number is named first
--   differ-triangle          == a and b differ only where x and a, x and y, or y and b do
--   differ-bits              == bits differ where their sum is odd
--   sum-part                 == the first terms are no more than all of them
--   sum-next                 == nor are the first terms and the next
--   sum-const                == k terms of a each add up to k * a
--   sum-within               == a number below a sum lies in one of its terms: so far past the terms before it
--   byte_flag                == a test as the code adds it is the test as a number
-- Assumes nothing.
use mathlib.Core.Path.{◌≡◌, refl, sym, ap, ap₂, ◌∙◌}
use mathlib.Core.Logic.{inl, inr}
use mathlib.Core.Bool.{Bool, true, false, not}
use Prim.Native.Nat.{ℕ, zero, suc, ◌+◌, ◌*◌, ◌-◌, ◌≤◌, ◌<◌, zero-le}
use native.Mathlib.Nat.{add-zero, add-suc, suc-mul, mul-zero, mul-add, add-mul, zero-mul, one-mul, eq-zero-or-pos, not-suc-le-zero}
use native.Mathlib.Decide.{ℕ_discrete, dec_lt}
use native.Mathlib.Omega.{arith}
use borrow.Author.Tests.{eq-eqb, ne_eqb}
use mir.Val.{bool_byte}
use Rattle.counting.specs.Paper.Sum.{sum_below, flag, same, unequal}

-- sums of equal terms are equal
pub sum-cong : (k : ℕ) {f g : ℕ → ℕ} → ((i : ℕ) → i < k → f i ≡ g i) → sum_below k f ≡ sum_below k g
unfolding sum_below
sum-cong zero h = refl
sum-cong (suc k) h = ap₂ ◌+◌ (sum-cong k (λ i l. h i (omega arith))) (h k (omega arith))

-- a sum of terms that are no larger is no larger
pub sum-le : (k : ℕ) {f g : ℕ → ℕ} → ((i : ℕ) → i < k → f i ≤ g i) → sum_below k f ≤ sum_below k g
unfolding sum_below
sum-le zero h = zero-le
sum-le (suc k) h = omega (arith, sum-le k (λ i l. h i (omega arith)), h k (omega arith))

-- a sum of zeros is 0
pub sum-zero : (k : ℕ) {f : ℕ → ℕ} → ((i : ℕ) → i < k → f i ≡ 0) → sum_below k f ≡ 0
unfolding sum_below
sum-zero zero h = refl
sum-zero (suc k) h = omega (arith, sum-zero k (λ i l. h i (omega arith)), h k (omega arith))

-- k terms of at most b each add up to at most k * b
pub sum_bound : (k b : ℕ) {f : ℕ → ℕ} → ((i : ℕ) → i < k → f i ≤ b) → sum_below k f ≤ k * b
unfolding sum_below
sum_bound zero b h = zero-le
sum_bound (suc k) b h = omega (arith, sum_bound k b (λ i l. h i (omega arith)), h k (omega arith))

-- the sum of f i + g i is the sum of f and that of g
pub sum-add : (k : ℕ) (f g : ℕ → ℕ) → sum_below k (λ i. f i + g i) ≡ sum_below k f + sum_below k g
unfolding sum_below
sum-add zero f g = refl
sum-add (suc k) f g = omega (arith, sum-add k f g)

-- a factor of every term is one of the sum
pub sum-mul : (k a : ℕ) (f : ℕ → ℕ) → sum_below k (λ i. a * f i) ≡ a * sum_below k f
unfolding sum_below
sum-mul zero a f = sym (mul-zero a)
sum-mul (suc k) a f = omega (arith, sum-mul k a f, mul-add a (sum_below k f) (f k))

pub sum-mul-right : (k a : ℕ) (f : ℕ → ℕ) → sum_below k (λ i. f i * a) ≡ sum_below k f * a
unfolding sum_below
sum-mul-right zero a f = sym (zero-mul a)
sum-mul-right (suc k) a f = omega (arith, sum-mul-right k a f, add-mul (sum_below k f) (f k) a)

-- a double sum is the same in either order
pub sum-swap : (m n : ℕ) (f : ℕ → ℕ → ℕ) → sum_below m (λ i. sum_below n (λ j. f i j)) ≡ sum_below n (λ j. sum_below m (λ i. f i j))
unfolding sum_below
sum-swap zero n f = sym (sum-zero n (λ j l. refl))
sum-swap (suc m) n f =
    ap (λ (x : ℕ). x + sum_below n (f m)) (sum-swap m n f) ∙ sym (sum-add n (λ j. sum_below m (λ i. f i j)) (f m))

-- a sum in two parts, and a sum over m rows of rho terms each
pub sum-append : (a b : ℕ) (f : ℕ → ℕ) → sum_below (a + b) f ≡ sum_below a f + sum_below b (λ k. f (a + k))
unfolding sum_below
sum-append a zero f = rw (add-zero a) (omega arith)
sum-append a (suc b) f = rw (add-suc a b) (omega (arith, sum-append a b f))

-- a sum over m rows of rho terms each
pub sum-flat : (m rho : ℕ) (f : ℕ → ℕ) → sum_below (m * rho) f ≡ sum_below m (λ i. sum_below rho (λ k. f (i * rho + k)))
unfolding sum_below
sum-flat zero rho f = rw (zero-mul rho)
sum-flat (suc m) rho f = rw (suc-mul m rho) (omega (arith, sum-append (m * rho) rho f, sum-flat m rho f))

-- one term, where it lies in the sum
pub sum-term : (k : ℕ) (f : ℕ → ℕ) (i : ℕ) → i < k → f i ≤ sum_below k f
unfolding sum_below
sum-term zero f i h = absurd (not-suc-le-zero h)
sum-term (suc k) f i h =
    elim (ℕ_discrete i k) [ yes e ↦ omega (arith, ap f e) | no ne ↦ omega (arith, sum-term k f i (omega arith)) ]

-- a sum that is not 0 has a term that is not 0
pub sum-pos : (k : ℕ) (f : ℕ → ℕ) → 0 < sum_below k f → (i : ℕ) × (i < k) × (0 < f i)
unfolding sum_below
sum-pos zero f h = absurd (not-suc-le-zero h)
sum-pos (suc k) f h =
    elim (eq-zero-or-pos (f k))
    [ inl e ↦ let p = sum-pos k f (omega arith) in (p.0, omega arith, p.2) | inr l ↦ (k, omega arith, l) ]

-- at most one term is not 0, and it is at most 1
pub sum_one : (k : ℕ) (f : ℕ → ℕ) → ((i : ℕ) → i < k → f i ≤ 1) → ((i i' : ℕ) → i < i' → i' < k → 0 < f i → 0 < f i' → ⊥) → sum_below k f ≤ 1
unfolding sum_below
sum_one zero f small once = zero-le
sum_one (suc k) f small once =
    elim (eq-zero-or-pos (f k)) [
      | inl e ↦ omega (arith, sum_one k f (λ i l. small i (omega arith)) (λ i i' l l'. once i i' l (omega arith)))
      | inr h ↦
          elim (eq-zero-or-pos (sum_below k f)) [
            | inl e ↦ omega (arith, small k (omega arith))
            | inr l ↦ let p = sum-pos k f l in absurd (once p.0 k p.1 (omega arith) p.2 h)
          ]
    ]

-- two terms that are not 0
pub sum-two : (k : ℕ) (f : ℕ → ℕ) (a b : ℕ) → a < k → b < k → (a ≡ b → ⊥) → 0 < f a → 0 < f b → 2 ≤ sum_below k f
unfolding sum_below
sum-two zero f a b ha hb ne pa pb = absurd (not-suc-le-zero ha)
sum-two (suc k) f a b ha hb ne pa pb =
    elim (ℕ_discrete a k) [
      | yes e ↦ omega (arith, ap f e, sum-term k f b (omega arith))
      | no na ↦
          elim (ℕ_discrete b k) [
            | yes e ↦ omega (arith, ap f e, sum-term k f a (omega arith))
            | no nb ↦ omega (arith, sum-two k f a b (omega arith) (omega arith) ne pa pb)
          ]
    ]

-- ---- tests

-- a test as the code adds it is the test as a number
pub byte_flag : (t : Bool) → bool_byte t ≡ flag t
byte_flag true = refl
byte_flag false = refl

-- `same` of a number and itself is 1
pub same_refl : (a : ℕ) → same a a ≡ 1
unfolding same
same_refl a = ap flag (eq-eqb a a refl)

-- `same` of two different numbers is 0
pub same-ne : (a b : ℕ) → (a ≡ b → ⊥) → same a b ≡ 0
unfolding same
same-ne a b h = ap flag (ne_eqb a b h)

-- the sum that picks one term
pub sum-pick : (k : ℕ) (f : ℕ → ℕ) (a : ℕ) → a < k → sum_below k (λ i. same a i * f i) ≡ f a
unfolding sum_below
sum-pick zero f a h = absurd (not-suc-le-zero h)
sum-pick (suc k) f a h =
    elim (ℕ_discrete a k) [
      | yes e ↦
          let rest : sum_below k (λ i. same a i * f i) ≡ 0 =
          sum-zero k (λ i l. ap (λ (x : ℕ). x * f i) (same-ne a i (λ q. omega arith)) ∙ zero-mul (f i)) in
          omega (arith, ap (λ (x : ℕ). x * f k) (ap (same a) (sym e) ∙ same_refl a), one-mul (f k), ap f e)
      | no ne ↦ omega (arith, ap (λ (x : ℕ). x * f k) (same-ne a k ne), zero-mul (f k), sum-pick k f a (omega arith))
    ]

-- `same` is at most 1
pub same-le : (a b : ℕ) → same a b ≤ 1
same-le a b =
    elim (ℕ_discrete a b) [ yes e ↦ omega (arith, ap (same a) (sym e), same_refl a) | no ne ↦ omega (arith, same-ne a b ne) ]

-- where `same` is not 0 the numbers are equal
pub same-pos : (a b : ℕ) → 0 < same a b → a ≡ b
same-pos a b h = elim (ℕ_discrete a b) [ yes e ↦ e | no ne ↦ omega (arith, same-ne a b ne) ]

-- `same` is the same whichever number is named first
pub same-sym : (a b : ℕ) → same a b ≡ same b a
same-sym a b =
    elim (ℕ_discrete a b)
    [ yes e ↦ ap₂ same e (sym e) | no ne ↦ same-ne a b ne ∙ sym (same-ne b a (λ e. ne (sym e))) ]

-- `unequal` is 0 of equal numbers and 1 of different ones
pub differ-eq : (a b : ℕ) → a ≡ b → unequal a b ≡ 0
unfolding unequal
differ-eq a b h = ap (λ (t : Bool). flag (not t)) (eq-eqb a b h)

pub differ-ne : (a b : ℕ) → (a ≡ b → ⊥) → unequal a b ≡ 1
unfolding unequal
differ-ne a b h = ap (λ (t : Bool). flag (not t)) (ne_eqb a b h)

-- `unequal` is at most 1
pub differ-le : (a b : ℕ) → unequal a b ≤ 1
differ-le a b =
    elim (ℕ_discrete a b) [ yes e ↦ omega (arith, differ-eq a b e) | no ne ↦ omega (arith, differ-ne a b ne) ]

-- where `unequal` is 0 the numbers are equal
pub differ-zero : (a b : ℕ) → unequal a b ≡ 0 → a ≡ b
differ-zero a b h = elim (ℕ_discrete a b) [ yes e ↦ e | no ne ↦ omega (arith, differ-ne a b ne) ]

-- `unequal` is the same whichever number is named first
pub differ-sym : (a b : ℕ) → unequal a b ≡ unequal b a
differ-sym a b =
    elim (ℕ_discrete a b)
    [ yes e ↦ differ-eq a b e ∙ sym (differ-eq b a (sym e)) | no ne ↦ differ-ne a b ne ∙ sym (differ-ne b a (λ e. ne (sym e))) ]

-- a and b differ only where x and a, x and y, or y and b do
pub differ-triangle : (a b x y : ℕ) → unequal a b ≤ unequal x a + unequal x y + unequal y b
differ-triangle a b x y =
    elim (ℕ_discrete a b) [
      | yes e ↦ omega (arith, differ-eq a b e)
      | no ne ↦
          elim (ℕ_discrete x a) [
            | no n1 ↦ omega (arith, differ-ne a b ne, differ-ne x a n1)
            | yes e1 ↦
                elim (ℕ_discrete x y) [
                  | no n2 ↦ omega (arith, differ-ne a b ne, differ-ne x y n2)
                  | yes e2 ↦ omega (arith, differ-ne a b ne, differ-ne y b (λ e3. ne (sym e1 ∙ e2 ∙ e3)))
                ]
          ]
    ]

-- of bits: they differ where their sum is odd
pub differ-bits : (a b : ℕ) → a < 2 → b < 2 → a + b ≡ unequal a b + 2 * (a * b)
unfolding unequal
differ-bits zero zero h l = refl
differ-bits zero (suc zero) h l = refl
differ-bits zero (suc (suc b)) h l = omega arith
differ-bits (suc zero) zero h l = refl
differ-bits (suc zero) (suc zero) h l = refl
differ-bits (suc zero) (suc (suc b)) h l = omega arith
differ-bits (suc (suc a)) b h l = omega arith

-- ---- parts of a sum

-- the first terms are no more than all of them
pub sum-part : (k n : ℕ) (f : ℕ → ℕ) → k ≤ n → sum_below k f ≤ sum_below n f
unfolding sum_below
sum-part k zero f h = let e : k ≡ 0 = omega arith in omega (arith, ap (λ (y : ℕ). sum_below y f) e)
sum-part k (suc n) f h =
    elim (ℕ_discrete k (suc n)) [ yes e ↦ omega (arith, ap (λ (y : ℕ). sum_below y f) e) | no ne ↦ omega (arith, sum-part k n f (omega arith)) ]

-- nor are the first terms and the next
pub sum-next : (k n : ℕ) (f : ℕ → ℕ) → k < n → sum_below k f + f k ≤ sum_below n f
unfolding sum_below
sum-next k n f h = sum-part (suc k) n f h

-- k terms of a each
pub sum-const : (k a : ℕ) → sum_below k (λ _. a) ≡ k * a
unfolding sum_below
sum-const zero a = sym (zero-mul a)
sum-const (suc k) a = omega (arith, sum-const k a, suc-mul k a)

-- a number below a sum lies in one of its terms
pub sum-within : (k : ℕ) (w : ℕ → ℕ) (p : ℕ) → p < sum_below k w → (j : ℕ) × (q : ℕ) × (j < k) × (q < w j) × (p ≡ sum_below j w + q)
unfolding sum_below
sum-within zero w p h = absurd (not-suc-le-zero h)
sum-within (suc k) w p h =
    elim (dec_lt p (sum_below k w)) [
      | yes l ↦ let r = sum-within k w p l in (r.0, r.1, omega (arith, r.2), r.3, r.4)
      | no g ↦ (k, p - sum_below k w, omega arith, omega arith, omega arith)
    ]
