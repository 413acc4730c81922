-- The nearest whole number to a fraction: by the difference of two shifts, of which at most 27 places count, and within 64 bits.
--   product                 == the gain times the digits of a sample is below 2 ^ 35
--   shifted                 == the nearest whole number by the difference of the two shifts, of which at most 27 places count
--   sample-shl, sample-lt   == the product shifted is the same within 64 bits, and below 2 ^ 62
--   step-shl, step-lt       == so is the step shifted
--   step-pos                == the step shifted is not 0
-- Assumes nothing.
use mathlib.Core.Path.{◌≡◌, sym, ap, ap₂, ◌∙◌}
use Prim.Native.Nat.{ℕ, zero, suc, ◌+◌, ◌-◌, ◌*◌, ◌/◌, ◌%◌, ◌^◌, ◌≤◌, ◌<◌, min}
use native.Mathlib.Nat.{add-mul, mul_assoc, mul_comm, mul-one, mul_left_comm, mul-div_cancel, div-div-eq-div-mul, sub-zero, zero-sub, zero-mul}
use native.Mathlib.Nat.{zero-div, zero-lt-suc, mul-le-mul, mul-le-mul_right, le_of_lt, lt_of_lt_of_le, div-eq_of_lt, le-div_iff_mul-le, mul-pos}
use native.Mathlib.Decide.{dec_lt}
use native.Mathlib.Omega.{arith}
use lib.Dec.{lit≤}
use lib.Arith.{mul_pred, digits_div}
use lib.Pow.{pow-add, pow_pos, pow_mono, shl_lt, shl_exact}
use Rattle.quantiser_levels.specs.Paper.Samples.{tie, nearest_whole}
use Rattle.quantiser_levels.specs.Scale.{Digits, Narrow}

-- c times as much, less a tie, is c times as much as what is less a tie, and something below c
shrink : (x c t : ℕ) → 0 < c → t ≤ 1 → (x * c - t) / c ≡ x - t
shrink x c zero h l = ap (λ (n : ℕ). n / c) (sub-zero (x * c)) ∙ mul-div_cancel x h ∙ sym (sub-zero x)
shrink zero c (suc t) h l = ap (λ (n : ℕ). (n - suc t) / c) (zero-mul c) ∙ ap (λ (n : ℕ). n / c) (zero-sub (suc t)) ∙ zero-div c ∙ sym (zero-sub (suc t))
shrink (suc x) c (suc zero) h l =
    ap (λ (n : ℕ). n / c) (mul_pred (zero-lt-suc x) h) ∙ digits_div (suc x - 1) (less h)
  where
    less : 0 < c → c - 1 < c
    less p = omega arith
shrink (suc x) c (suc (suc t)) h l = absurd (many t l)
  where
    many : (t : ℕ) → suc (suc t) ≤ 1 → ⊥
    many t l = omega arith

-- a fraction with both its numbers c times as large
scale : (n d c : ℕ) → 0 < c → nearest_whole (n * c) (d * c) ≡ nearest_whole n d
unfolding nearest_whole
scale n d c h =
    ap₂ (λ (x y : ℕ). (x - tie) / y)
    (ap (λ (x : ℕ). x + d * c) (sym (mul_assoc 2 n c)) ∙ sym (add-mul (2 * n) d c)) (sym (mul_assoc 2 d c) ∙ mul_comm (2 * d) c)
    ∙ sym (div-div-eq-div-mul ((2 * n + d) * c - tie) c (2 * d))
    ∙ ap (λ (x : ℕ). x / (2 * d)) (shrink (2 * n + d) c tie h (lit≤ tt))

-- a fraction of at least the top
large : (n d : ℕ) {top : ℕ} → 0 < d → top * d ≤ n → top ≤ nearest_whole n d
unfolding nearest_whole
large n d {top} h l =
    let e : top * (2 * d) ≡ 2 * (top * d) = mul_left_comm top 2 d in
    let p : 0 < 2 * d = omega arith in
    let q : top * (2 * d) ≤ 2 * n + d - tie = omega arith in
    (le-div_iff_mul-le p).1 q

-- a fraction below a half
small : (n d : ℕ) → 2 * n < d → nearest_whole n d ≡ 0
unfolding nearest_whole
small n d h =
    let l : 2 * n + d - tie < 2 * d = omega arith in
    div-eq_of_lt l

-- ---- the sample is s * 2 ^ j units and the step t * 2 ^ i: only the difference of the shifts counts

split : (j i : ℕ) → i ≤ j → j ≡ i + (j - i)
split j i h = omega arith

up : (g s t : ℕ) {i j : ℕ} → i ≤ j → nearest_whole (g * (s * 2 ^ j)) (t * 2 ^ i) ≡ nearest_whole (g * s * 2 ^ (j - i)) t
up g s t {i} {j} h =
    ap (λ (n : ℕ). nearest_whole n (t * 2 ^ i))
    (ap (λ (k : ℕ). g * (s * 2 ^ k)) (split j i h) ∙ ap (λ (k : ℕ). g * (s * k)) (pow-add 2 i (j - i)) ∙ simp (mul_assoc, mul_comm))
    ∙ scale (g * s * 2 ^ (j - i)) t (2 ^ i) (pow_pos i)

down : (g s t : ℕ) {i j : ℕ} → j ≤ i → nearest_whole (g * (s * 2 ^ j)) (t * 2 ^ i) ≡ nearest_whole (g * s) (t * 2 ^ (i - j))
down g s t {i} {j} h =
    ap₂ nearest_whole (sym (mul_assoc g s (2 ^ j)))
    (ap (λ (k : ℕ). t * 2 ^ k) (split i j h) ∙ ap (λ (k : ℕ). t * k) (pow-add 2 j (i - j)) ∙ simp (mul_assoc, mul_comm))
    ∙ scale (g * s) (t * 2 ^ (i - j)) (2 ^ j) (pow_pos j)

module _ {g s t top j : ℕ} (w : Narrow g top t) (d : Digits s j) where
  -- the gain times the digits of a sample is below 2 ^ 35
  pub product : g * s < 2 ^ 35
  product =
      let n : g * s ≤ 2 ^ 11 * s = mul-le-mul_right s (omega (arith, w.few)) in
      omega (arith, d.below)

  -- past 26 places upward the sample is larger than the largest level
  all-of-top : (k : ℕ) → 0 < j → 26 < k → min top (nearest_whole (g * s * 2 ^ k) t) ≡ top
  all-of-top k p h =
      let n : 2 ^ 50 ≤ g * s * 2 ^ k = mul-le-mul (mul-le-mul w.some (d.lead p)) (pow_mono h) in
      let f : top ≤ 2 ^ 11 = omega (arith, w.most) in
      let m : top * t ≤ 2 ^ 11 * 2 ^ 24 = mul-le-mul f (le_of_lt w.to) in
      let l : top ≤ nearest_whole (g * s * 2 ^ k) t = large (g * s * 2 ^ k) t (omega (arith, w.from)) (omega arith) in
      omega arith

  -- past 26 places downward it is less than half a step
  none-of-top : (k : ℕ) → 26 < k → min top (nearest_whole (g * s) (t * 2 ^ k)) ≡ 0
  none-of-top k h =
      let n : g * s < 2 ^ 35 = product in
      let m : 2 ^ 50 ≤ t * 2 ^ k = mul-le-mul w.from (pow_mono h) in
      let z : nearest_whole (g * s) (t * 2 ^ k) ≡ 0 = small (g * s) (t * 2 ^ k) (omega arith) in
      omega arith

  -- so more than 27 places give the same as 27
  rise : (k : ℕ) → 0 < j → min top (nearest_whole (g * s * 2 ^ k) t) ≡ min top (nearest_whole (g * s * 2 ^ min 27 k) t)
  rise k p =
      elim (dec_lt 26 k) [
        | yes h ↦ all-of-top k p h ∙ sym (all-of-top (min 27 k) p (omega arith))
        | no h ↦ ap (λ (x : ℕ). min top (nearest_whole (g * s * 2 ^ x) t)) (omega arith)
      ]

  fall : (k : ℕ) → min top (nearest_whole (g * s) (t * 2 ^ k)) ≡ min top (nearest_whole (g * s) (t * 2 ^ min 27 k))
  fall k =
      elim (dec_lt 26 k) [
        | yes h ↦ none-of-top k h ∙ sym (none-of-top (min 27 k) (omega arith))
        | no h ↦ ap (λ (x : ℕ). min top (nearest_whole (g * s) (t * 2 ^ x))) (omega arith)
      ]

  -- the code's numbers
  pub shifted : (i : ℕ) → min top (nearest_whole (g * (s * 2 ^ j)) (t * 2 ^ i)) ≡ min top (nearest_whole (g * s * 2 ^ min 27 (j - i)) (t * 2 ^ min 27 (i - j)))
  shifted i =
      elim (dec_lt i j) [
        | yes h ↦
            let z : min 27 (i - j) ≡ 0 = omega arith in
            ap (min top) (up g s t (le_of_lt h)) ∙ rise (j - i) (omega arith)
            ∙ ap (λ (x : ℕ). min top (nearest_whole (g * s * 2 ^ min 27 (j - i)) x)) (sym (mul-one t) ∙ ap (λ (x : ℕ). t * 2 ^ x) (sym z))
        | no h ↦
            let z : min 27 (j - i) ≡ 0 = omega arith in
            ap (min top) (down g s t (omega arith)) ∙ fall (i - j)
            ∙ ap (λ (x : ℕ). min top (nearest_whole x (t * 2 ^ min 27 (i - j)))) (sym (mul-one (g * s)) ∙ ap (λ (x : ℕ). g * s * 2 ^ x) (sym z))
      ]

  -- within 27 places a shift loses nothing
  module _ (k : ℕ) (h : k ≤ 27) where
    -- the product shifted is the same within 64 bits, and below 2 ^ 62
    pub sample-shl : g * s * 2 ^ k % 2 ^ 64 ≡ g * s * 2 ^ k
    sample-shl = shl_exact 35 k 64 product (omega arith)

    pub sample-lt : g * s * 2 ^ k < 2 ^ 62
    sample-lt = lt_of_lt_of_le (shl_lt 35 k product) (pow_mono {j = 62} (omega arith))

    -- so is the step shifted
    pub step-shl : t * 2 ^ k % 2 ^ 64 ≡ t * 2 ^ k
    step-shl = shl_exact 24 k 64 w.to (omega arith)

    pub step-lt : t * 2 ^ k < 2 ^ 62
    step-lt = lt_of_lt_of_le (shl_lt 24 k w.to) (pow_mono {j = 62} (omega arith))

    -- the step shifted is not 0
    pub step-pos : 0 < t * 2 ^ k
    step-pos = mul-pos (omega (arith, w.from)) (pow_pos k)
