-- Searches and sums over a range of numbers, as the methods of an iterator answer them.
--   any_from, any_range, any_range_rest == whether a number of a range passes, as a search below a bound: from any start, from 0, from 1
--   sum_range                           == the sum of the values at the numbers of a range, as a sum below a bound
-- Assumes nothing.
use mathlib.Core.Path.{◌≡◌, refl, sym, ap, ap₂, ◌∙◌}
use mathlib.Core.Bool.{Bool, true, false, ◌||◌}
use Prim.Native.Nat.{ℕ, zero, suc, ◌+◌, ◌-◌}
use native.Mathlib.Omega.{arith}
use Rattle.std.specs.List.{list_any, range_with_len, fold, sum_by}
use Rattle.counting.specs.Paper.Search.{any_below}
use Rattle.counting.specs.Paper.Sum.{sum_below}

or-assoc : (a b c : Bool) → ((a || b) || c) ≡ (a || (b || c))
or-assoc true b c = refl
or-assoc false b c = refl

or-none : (a : Bool) → (false || a) ≡ (a || false)
or-none true = refl
or-none false = refl

-- the first place apart from the others
any-first : (t : ℕ → Bool) (k : ℕ) → any_below t (suc k) ≡ (t 0 || any_below (λ i. t (suc i)) k)
unfolding any_below
any-first t zero = or-none (t 0)
any-first t (suc k) = ap (λ b. b || t (suc k)) (any-first t k) ∙ or-assoc (t 0) (any_below (λ i. t (suc i)) k) (t (suc k))

-- whether a number of a range passes, by a test of the places from its start on
pub any_from : (t u : ℕ → Bool) (a n : ℕ) → ((i : ℕ) → t (a + i) ≡ u i) → list_any t (range_with_len a n) ≡ any_below u n
unfolding any_below
any_from t u a zero h = refl
any_from t u a (suc n) h =
    ap₂ ◌||◌ (ap t (omega arith) ∙ h 0) (any_from t (λ i. u (suc i)) (a + 1) n (λ i. ap t (omega arith) ∙ h (suc i)))
    ∙ sym (any-first u n)

-- from 0 on
pub any_range : (t : ℕ → Bool) (n : ℕ) → list_any t (range_with_len 0 n) ≡ any_below t n
any_range t n = any_from t t 0 n (λ i. ap t (omega arith))

-- from 1 on, where 0 is known to fail
pub any_range_rest : (t : ℕ → Bool) (n : ℕ) → t 0 ≡ false → list_any t (range_with_len 1 (n - 1)) ≡ any_below t n
unfolding any_below
any_range_rest t zero h = refl
any_range_rest t (suc n) h =
    ap (λ k. list_any t (range_with_len 1 k)) (omega arith)
    ∙ any_from t (λ i. t (suc i)) 1 n (λ i. ap t (omega arith))
    ∙ ap (λ b. b || any_below (λ i. t (suc i)) n) (sym h)
    ∙ sym (any-first t n)

-- the first place apart from the others
sum-first : (k : ℕ) (f : ℕ → ℕ) → sum_below (suc k) f ≡ f 0 + sum_below k (λ i. f (suc i))
unfolding sum_below
sum-first zero f = omega arith
sum-first (suc k) f = omega (arith, sum-first k f)

-- the same with what is summed up before
sum_on : (f u : ℕ → ℕ) (s a n : ℕ) → ((i : ℕ) → f (a + i) ≡ u i) → fold (λ x y. x + f y) s (range_with_len a n) ≡ s + sum_below n u
unfolding sum_below
sum_on f u s a zero h = omega arith
sum_on f u s a (suc n) h =
    let one : f a ≡ u 0 = ap f (omega arith) ∙ h 0 in
    let all : sum_below (suc n) u ≡ u 0 + sum_below n (λ i. u (suc i)) = sum-first n u in
    sum_on f (λ i. u (suc i)) (s + f a) (a + 1) n (λ i. ap f (omega arith) ∙ h (suc i)) ∙ omega (arith, one, all)

-- the sum of the values at the numbers of a range
pub sum_range : (f u : ℕ → ℕ) (a n : ℕ) → ((i : ℕ) → f (a + i) ≡ u i) → sum_by f (range_with_len a n) ≡ sum_below n u
sum_range f u a n h = sum_on f u 0 a n h ∙ omega arith
