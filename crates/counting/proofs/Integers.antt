-- Laws of whole numbers: differences of numbers, sums, and numbers cut to a range.
--   sub-ge            == a - b is k where b + k is a
--   sub-lt            == a - b is -(k + 1) where a + (k + 1) is b
--   sub-sum           == a sum of differences is the difference of the sums
--   abs-sub           == numbers at most c apart have a difference of magnitude at most c
--   abs-add           == the magnitude of a sum is at most the sum of the magnitudes
--   abs_neg           == the magnitude of -k is k
--   cut-bound         == a number cut to a range lies in it
--   sumℤ-cong         == sums of equal terms are equal
--   sumℤ-difference   == a sum of many differences is the difference of the two sums
--   sumℤ-bound        == a sum's magnitude is at most the sum of what bounds its terms
-- Assumes nothing.
use mathlib.Core.Path.{◌≡◌, refl, sym, ap, ap₂, ◌∙◌}
use mathlib.Core.Bool.{Bool, cond}
use Prim.Native.Nat.{ℕ, zero, suc, min, ◌+◌, ◌-◌, ◌≤◌, ◌<◌, zero-le}
use native.Mathlib.Decide.{dec_lt}
use native.Mathlib.Omega.{arith}
use borrow.Author.Tests.{lt-ltb, le-ltb}
use lib.IntN.{ℤ, pos, negsuc, neg_ℤ, nat_abs, sub_ℕ, ◌+ℤ◌}
use Rattle.counting.specs.Paper.Sum.{sum_below}
use Rattle.counting.specs.Paper.Integers.{sumℤ, cut}

-- ---- a difference of two numbers, by its sign

-- a - b is k where b + k is a
pub sub-ge : (a b k : ℕ) → b + k ≡ a → sub_ℕ a b ≡ pos k
sub-ge a b k e = ap (λ (t : Bool). cond t (negsuc (b - suc a)) (pos (a - b))) (le-ltb a b (omega arith)) ∙ ap pos (omega arith)

-- a - b is -(k + 1) where a + (k + 1) is b
pub sub-lt : (a b k : ℕ) → a + suc k ≡ b → sub_ℕ a b ≡ negsuc k
sub-lt a b k e = ap (λ (t : Bool). cond t (negsuc (b - suc a)) (pos (a - b))) (lt-ltb a b (omega arith)) ∙ ap negsuc (omega arith)

same-difference : (p q r s : ℕ) → p + s ≡ r + q → sub_ℕ p q ≡ sub_ℕ r s
same-difference p q r s e =
    elim (dec_lt p q) [
      | yes l ↦ sub-lt p q (q - p - 1) (omega arith) ∙ sym (sub-lt r s (q - p - 1) (omega arith))
      | no g ↦ sub-ge p q (p - q) (omega arith) ∙ sym (sub-ge r s (p - q) (omega arith))
    ]

-- a sum of differences is the difference of the sums
pub sub-sum : (x y a b : ℕ) → sub_ℕ x y +ℤ sub_ℕ a b ≡ sub_ℕ (x + a) (y + b)
sub-sum x y a b =
    elim (dec_lt x y) [
      | no h ↦
          elim (dec_lt a b) [
            | no g ↦ rw (sub-ge x y (x - y) (omega arith), sub-ge a b (a - b) (omega arith)) (sym (sub-ge (x + a) (y + b) (x - y + (a - b)) (omega arith)))
            | yes g ↦
                rw (sub-ge x y (x - y) (omega arith), sub-lt a b (b - a - 1) (omega arith))
                (same-difference (x - y) (suc (b - a - 1)) (x + a) (y + b) (omega arith))
          ]
      | yes h ↦
          elim (dec_lt a b) [
            | no g ↦
                rw (sub-lt x y (y - x - 1) (omega arith), sub-ge a b (a - b) (omega arith))
                (same-difference (a - b) (suc (y - x - 1)) (x + a) (y + b) (omega arith))
            | yes g ↦
                rw (sub-lt x y (y - x - 1) (omega arith), sub-lt a b (b - a - 1) (omega arith))
                (sym (sub-lt (x + a) (y + b) (suc (y - x - 1 + (b - a - 1))) (omega arith)))
          ]
    ]

-- ---- magnitudes

-- numbers at most c apart have a difference of magnitude at most c
pub abs-sub : (a b c : ℕ) → a ≤ b + c → b ≤ a + c → nat_abs (sub_ℕ a b) ≤ c
abs-sub a b c h l =
    elim (dec_lt a b) [
      | yes s ↦ rw (sub-lt a b (b - a - 1) (omega arith)) (omega arith)
      | no g ↦ rw (sub-ge a b (a - b) (omega arith)) (omega arith)
    ]

-- the magnitude of a sum is at most the sum of the magnitudes
pub abs-add : (x y : ℤ) → nat_abs (x +ℤ y) ≤ nat_abs x + nat_abs y
abs-add (pos a) (pos b) = omega arith
abs-add (pos a) (negsuc b) = abs-sub a (suc b) (a + suc b) (omega arith) (omega arith)
abs-add (negsuc a) (pos b) = abs-sub b (suc a) (suc a + b) (omega arith) (omega arith)
abs-add (negsuc a) (negsuc b) = omega arith

-- the magnitude of -k is k
pub abs_neg : (k : ℕ) → nat_abs (neg_ℤ (pos k)) ≡ k
abs_neg zero = refl
abs_neg (suc k) = refl

-- a number cut to a range lies in it
pub cut-bound : (L : ℕ) (x : ℤ) → nat_abs (cut L x) ≤ L
cut-bound L (pos k) = omega arith
cut-bound L (negsuc k) = omega (arith, abs_neg (min (suc k) L))

-- ---- sums

-- sums of equal terms are equal
pub sumℤ-cong : (k : ℕ) {f g : ℕ → ℤ} → ((i : ℕ) → i < k → f i ≡ g i) → sumℤ k f ≡ sumℤ k g
unfolding sumℤ
sumℤ-cong zero h = refl
sumℤ-cong (suc k) h = ap₂ ◌+ℤ◌ (sumℤ-cong k (λ i l. h i (omega arith))) (h k (omega arith))

-- a sum of differences
pub sumℤ-difference : (k : ℕ) (a b : ℕ → ℕ) {f : ℕ → ℤ} → ((i : ℕ) → i < k → f i ≡ sub_ℕ (a i) (b i)) → sumℤ k f ≡ sub_ℕ (sum_below k a) (sum_below k b)
unfolding sumℤ sum_below
sumℤ-difference zero a b h = refl
sumℤ-difference (suc k) a b h =
    ap₂ ◌+ℤ◌ (sumℤ-difference k a b (λ i l. h i (omega arith))) (h k (omega arith)) ∙ sub-sum (sum_below k a) (sum_below k b) (a k) (b k)

-- a sum is at most the sum of the magnitudes
pub sumℤ-bound : (k : ℕ) (b : ℕ → ℕ) (f : ℕ → ℤ) → ((i : ℕ) → i < k → nat_abs (f i) ≤ b i) → nat_abs (sumℤ k f) ≤ sum_below k b
unfolding sumℤ sum_below
sumℤ-bound zero b f h = zero-le
sumℤ-bound (suc k) b f h =
    omega (arith, abs-add (sumℤ k f) (f k), sumℤ-bound k b f (λ i l. h i (omega arith)), h k (omega arith))
