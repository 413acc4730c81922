-- Laws of adders of whole words.
--   three-digits   == three digits add up to the digit of their sum and twice the one that is carried
--   two_digits     == so do two
--   Added          == what the words of seven adders are
--   eight-added    == seven adders of three words and three of two, the last without a carry, add eight words, where the sum has six digits
-- Assumes nothing.
use mathlib.Core.Path.{◌≡◌, refl, ap, ap₂, ◌∙◌}
use Prim.Native.Nat.{ℕ, zero, suc, ◌+◌, ◌*◌, ◌<◌, ◌≤◌}
use native.Mathlib.Omega.{arith}
use lib.Bits.{bit_and, bit_or, bit_xor}
use Rattle.counting.specs.Digits.{binary_digit}
use Rattle.counting.proofs.Digits.{digit_and, digit_or, digit-xor}
use Rattle.majority_planes.specs.Planes.{six_digits}
use Rattle.majority_planes.specs.Adders.{odd_of, most_of, eight_bits}

-- ---- on bits

two-bits : (a b : ℕ) → a < 2 → b < 2 → bit_xor a b + 2 * bit_and a b ≡ a + b
two-bits zero zero g h = refl
two-bits zero (suc zero) g h = refl
two-bits (suc zero) zero g h = refl
two-bits (suc zero) (suc zero) g h = refl
two-bits (suc (suc a)) b g h = absurd (omega arith)
two-bits zero (suc (suc b)) g h = absurd (omega arith)
two-bits (suc zero) (suc (suc b)) g h = absurd (omega arith)

three-bits : (a b c : ℕ) → a < 2 → b < 2 → c < 2 → bit_xor (bit_xor a b) c + 2 * bit_or (bit_and a b) (bit_and (bit_xor a b) c) ≡ a + b + c
three-bits zero zero zero f g h = refl
three-bits zero zero (suc zero) f g h = refl
three-bits zero (suc zero) zero f g h = refl
three-bits zero (suc zero) (suc zero) f g h = refl
three-bits (suc zero) zero zero f g h = refl
three-bits (suc zero) zero (suc zero) f g h = refl
three-bits (suc zero) (suc zero) zero f g h = refl
three-bits (suc zero) (suc zero) (suc zero) f g h = refl
three-bits (suc (suc a)) b c f g h = absurd (omega arith)
three-bits zero (suc (suc b)) c f g h = absurd (omega arith)
three-bits (suc zero) (suc (suc b)) c f g h = absurd (omega arith)
three-bits zero zero (suc (suc c)) f g h = absurd (omega arith)
three-bits zero (suc zero) (suc (suc c)) f g h = absurd (omega arith)
three-bits (suc zero) zero (suc (suc c)) f g h = absurd (omega arith)
three-bits (suc zero) (suc zero) (suc (suc c)) f g h = absurd (omega arith)

-- ---- on words

-- two digits
pub two_digits : (x y t : ℕ) → binary_digit (bit_xor x y) t + 2 * binary_digit (bit_and x y) t ≡ binary_digit x t + binary_digit y t
two_digits x y t =
    ap₂ (λ (u v : ℕ). u + 2 * v) (digit-xor x y t) (digit_and x y t)
    ∙ two-bits (binary_digit x t) (binary_digit y t) (omega arith) (omega arith)

odd-digit : (x y z t : ℕ) → binary_digit (odd_of x y z) t ≡ bit_xor (bit_xor (binary_digit x t) (binary_digit y t)) (binary_digit z t)
unfolding odd_of
odd-digit x y z t = digit-xor (bit_xor x y) z t ∙ ap (λ (u : ℕ). bit_xor u (binary_digit z t)) (digit-xor x y t)

most-digit : (x y z t : ℕ)
    → binary_digit (most_of x y z) t
    ≡ bit_or (bit_and (binary_digit x t) (binary_digit y t)) (bit_and (bit_xor (binary_digit x t) (binary_digit y t)) (binary_digit z t))
unfolding most_of
most-digit x y z t =
    digit_or (bit_and x y) (bit_and (bit_xor x y) z) t
    ∙ ap₂ bit_or (digit_and x y t) (digit_and (bit_xor x y) z t ∙ ap (λ (u : ℕ). bit_and u (binary_digit z t)) (digit-xor x y t))

-- three digits
pub three-digits : (x y z t : ℕ)
    → binary_digit (odd_of x y z) t + 2 * binary_digit (most_of x y z) t ≡ binary_digit x t + binary_digit y t + binary_digit z t
three-digits x y z t =
    ap₂ (λ (u v : ℕ). u + 2 * v) (odd-digit x y z t) (most-digit x y z t)
    ∙ three-bits (binary_digit x t) (binary_digit y t) (binary_digit z t) (omega arith) (omega arith) (omega arith)

-- four adders in a chain, as numbers
four-adders : (a x0 x1 x2 x3 x4 x5 x6 x7 a0 s0 a1 s1 a2 s2 a3 s3 : ℕ) → a0 + 2 * s0 ≡ a + x0 + x1 → a1 + 2 * s1 ≡ a0 + x2 + x3
    → a2 + 2 * s2 ≡ a1 + x4 + x5 → a3 + 2 * s3 ≡ a2 + x6 + x7
    → a3 + 2 * (s0 + s1 + s2 + s3) ≡ a + (x0 + x1 + x2 + x3 + x4 + x5 + x6 + x7)
four-adders a x0 x1 x2 x3 x4 x5 x6 x7 a0 s0 a1 s1 a2 s2 a3 s3 p q r v = omega arith

-- two adders
two-adders : (b s0 s1 s2 s3 b0 t0 b1 t1 : ℕ) → b0 + 2 * t0 ≡ b + s0 + s1 → b1 + 2 * t1 ≡ b0 + s2 + s3
    → b1 + 2 * (t0 + t1) ≡ b + (s0 + s1 + s2 + s3)
two-adders b s0 s1 s2 s3 b0 t0 b1 t1 p q = omega arith

-- three digits that carry on
carried : (d e f u d1 v e1 w f1 y : ℕ) → d1 + 2 * v ≡ d + u → e1 + 2 * w ≡ e + v → f1 + 2 * y ≡ f + w
    → 8 * d1 + 16 * e1 + 32 * f1 + 64 * y ≡ 8 * d + 16 * e + 32 * f + 8 * u
carried d e f u d1 v e1 w f1 y p q r = omega arith

-- all of them: nothing is carried beyond six digits
all_digits : (a b c high x a3 s b1 t c0 u high1 y : ℕ) → a + 2 * b + 4 * c + high + x ≤ 63 → a3 + 2 * s ≡ a + x → b1 + 2 * t ≡ b + s
    → c0 + 2 * u ≡ c + t → high1 + 64 * y ≡ high + 8 * u
    → a3 + 2 * b1 + 4 * c0 + high1 ≡ a + 2 * b + 4 * c + high + x
all_digits a b c high x a3 s b1 t c0 u high1 y h p q r v = omega arith

-- the sum and the carry of three words, whatever they are called
adder : (x y z o m t : ℕ) → o ≡ odd_of x y z → m ≡ most_of x y z
    → binary_digit o t + 2 * binary_digit m t ≡ binary_digit x t + binary_digit y t + binary_digit z t
adder x y z o m t p q = rw (p, q) (three-digits x y z t)

module _ (a b c d e f x0 x1 x2 x3 x4 x5 x6 x7 : ℕ) where
  module _ (a0 s0 a1 s1 a2 s2 a3 s3 b0 t0 b1 t1 c0 u : ℕ) where
    -- what the adders' words are
    pub record Added : Type 0 where
      pub odd1 : a0 ≡ odd_of a x0 x1
      pub most1 : s0 ≡ most_of a x0 x1
      pub odd2 : a1 ≡ odd_of a0 x2 x3
      pub most2 : s1 ≡ most_of a0 x2 x3
      pub odd3 : a2 ≡ odd_of a1 x4 x5
      pub most3 : s2 ≡ most_of a1 x4 x5
      pub odd4 : a3 ≡ odd_of a2 x6 x7
      pub most4 : s3 ≡ most_of a2 x6 x7
      pub odd5 : b0 ≡ odd_of b s0 s1
      pub most5 : t0 ≡ most_of b s0 s1
      pub odd6 : b1 ≡ odd_of b0 s2 s3
      pub most6 : t1 ≡ most_of b0 s2 s3
      pub odd7 : c0 ≡ odd_of c t0 t1
      pub most7 : u ≡ most_of c t0 t1

    -- eight words added to six planes' words
    pub eight-added : Added → (t : ℕ) → six_digits a b c d e f t + eight_bits x0 x1 x2 x3 x4 x5 x6 x7 t ≤ 63
        → six_digits a3 b1 c0 (bit_xor d u) (bit_xor e (bit_and d u)) (bit_xor f (bit_and e (bit_and d u))) t
        ≡ six_digits a b c d e f t + eight_bits x0 x1 x2 x3 x4 x5 x6 x7 t
    unfolding six_digits eight_bits
    eight-added w t h =
        let one = four-adders (D a) (D x0) (D x1) (D x2) (D x3) (D x4) (D x5) (D x6) (D x7) (D a0) (D s0) (D a1) (D s1) (D a2) (D s2) (D a3) (D s3)
        (adder a x0 x1 a0 s0 t w.odd1 w.most1) (adder a0 x2 x3 a1 s1 t w.odd2 w.most2)
        (adder a1 x4 x5 a2 s2 t w.odd3 w.most3) (adder a2 x6 x7 a3 s3 t w.odd4 w.most4) in
        let two = two-adders (D b) (D s0) (D s1) (D s2) (D s3) (D b0) (D t0) (D b1) (D t1)
        (adder b s0 s1 b0 t0 t w.odd5 w.most5) (adder b0 s2 s3 b1 t1 t w.odd6 w.most6) in
        let four = adder c t0 t1 c0 u t w.odd7 w.most7 in
        let up = carried (D d) (D e) (D f) (D u) (D (bit_xor d u)) (D (bit_and d u)) (D (bit_xor e (bit_and d u))) (D (bit_and e (bit_and d u)))
        (D (bit_xor f (bit_and e (bit_and d u)))) (D (bit_and f (bit_and e (bit_and d u))))
        (two_digits d u t) (two_digits e (bit_and d u) t) (two_digits f (bit_and e (bit_and d u)) t) in
        let so = all_digits (D a) (D b) (D c) (8 * D d + 16 * D e + 32 * D f) (D x0 + D x1 + D x2 + D x3 + D x4 + D x5 + D x6 + D x7) (D a3)
        (D s0 + D s1 + D s2 + D s3) (D b1) (D t0 + D t1) (D c0) (D u) (8 * D (bit_xor d u) + 16 * D (bit_xor e (bit_and d u)) + 32 * D (bit_xor f (bit_and e (bit_and d u))))
        (D (bit_and f (bit_and e (bit_and d u)))) (omega (arith, h)) (omega (arith, one)) two (omega (arith, four)) (omega (arith, up)) in
        omega (arith, so)
      where
        D : ℕ → ℕ
        D x = binary_digit x t
