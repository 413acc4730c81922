-- The set digits of a byte, and the places at which two words differ, byte by byte.
--   byte-apart      == the set digits of the exclusive or are the places at which the bytes differ
--   apart-few       == two bytes differ at 8 places at most
--   distance_none   == over no places the distance is 0
--   distance-more   == one byte more adds the places at which the two bytes differ
-- Assumes nothing.
use mathlib.Core.Path.{◌≡◌, refl, sym, ap, ap₂, ◌∙◌}
use mathlib.Core.List.{List}
use Prim.Native.Nat.{ℕ, zero, suc, ◌+◌, ◌*◌, ◌-◌, ◌/◌, ◌^◌, ◌≤◌, ◌<◌}
use native.Mathlib.Omega.{arith}
use native.Mathlib.Nat.{div-eq_of_lt}
use native.Mathlib.Numerals.{add-one}
use lib.Pow.{shr-shr}
use lib.Bits.{bit_xor, xor_lt}
use lib.Count.{ones, ones_step}
use lib.ListN.{get_or}
use Rattle.counting.specs.Paper.Sum.{sum_below, unequal}
use Rattle.counting.proofs.Sums.{sum-cong, sum-append, sum_bound, differ-le}
use Rattle.packed_word.specs.Paper.Packed.{bit_at, distance}
use Rattle.packed_distance.specs.Parts.{apart}
use Rattle.counting.specs.Digits.{binary_digit}
use Rattle.counting.proofs.Digits.{digit-xor}
use Rattle.packed_word.proofs.Packed.{bit-of}

xor-differ : (x y : ℕ) → x < 2 → y < 2 → bit_xor x y ≡ unequal x y
unfolding unequal
xor-differ zero zero h l = refl
xor-differ zero (suc zero) h l = refl
xor-differ zero (suc (suc y)) h l = absurd (omega arith)
xor-differ (suc zero) zero h l = refl
xor-differ (suc zero) (suc zero) h l = refl
xor-differ (suc zero) (suc (suc y)) h l = absurd (omega arith)
xor-differ (suc (suc x)) y h l = absurd (omega arith)

-- digit k of the exclusive or says whether the digits differ
xor-apart : (x y k : ℕ) → binary_digit (bit_xor x y) k ≡ unequal (binary_digit x k) (binary_digit y k)
xor-apart x y k = digit-xor x y k ∙ xor-differ (binary_digit x k) (binary_digit y k) (omega arith) (omega arith)

-- ---- the set digits of a byte

chain : (o d : ℕ → ℕ) → ((k : ℕ) → o k ≡ d k + o (suc k)) → o 8 ≡ 0 → o 0 ≡ sum_below 8 (λ i. d (7 - i))
unfolding sum_below
chain o d h e = omega (arith, h 0, h 1, h 2, h 3, h 4, h 5, h 6, h 7)

ones-shifted : (v k : ℕ) → ones (v / 2 ^ k) ≡ binary_digit v k + ones (v / 2 ^ suc k)
ones-shifted v k =
    ones_step (v / 2 ^ k) ∙ ap (λ (x : ℕ). binary_digit v k + ones x) (shr-shr v k 1 ∙ ap (λ (x : ℕ). v / 2 ^ x) (add-one k))

ones-byte : (v : ℕ) → v < 256 → ones v ≡ sum_below 8 (λ i. binary_digit v (7 - i))
unfolding ones
ones-byte v h =
    let e : v / 1 ≡ v = omega arith in
    ap ones (sym e) ∙ chain (λ k. ones (v / 2 ^ k)) (binary_digit v) (ones-shifted v) (ap ones (div-eq_of_lt h))

-- the set digits of the exclusive or are the places at which the bytes differ
pub byte-apart : (x y : ℕ) → x < 256 → y < 256 → ones (bit_xor x y) ≡ apart x y
unfolding apart
byte-apart x y h l = ones-byte (bit_xor x y) (xor_lt 8 x y h l) ∙ sum-cong 8 (λ i m. xor-apart x y (7 - i))

-- two bytes differ at 8 places at most
pub apart-few : (r x y : ℕ) → r ≡ apart x y → r ≤ 8
unfolding apart
apart-few r x y e =
    let differs : ℕ → ℕ = λ i. unequal (binary_digit x (7 - i)) (binary_digit y (7 - i)) in
    omega (arith, sum_bound 8 1 {f = differs} (λ i l. differ-le (binary_digit x (7 - i)) (binary_digit y (7 - i))))

-- ---- words, byte by byte

-- over no places the distance is 0
pub distance_none : (z c : ℕ → ℕ) → 0 ≡ distance 0 z c
unfolding distance sum_below
distance_none z c = refl

-- one byte more
pub distance-more : (a b : List ℕ) (q : ℕ) → distance (8 * (q + 1)) (bit_at a) (bit_at b) ≡ distance (8 * q) (bit_at a) (bit_at b) + apart (get_or a q 0) (get_or b q 0)
unfolding distance apart
distance-more a b q =
    let e : 8 * (q + 1) ≡ 8 * q + 8 = omega arith in
    ap (λ (k : ℕ). sum_below k (λ j. unequal (bit_at a j) (bit_at b j))) e
    ∙ sum-append (8 * q) 8 (λ j. unequal (bit_at a j) (bit_at b j))
    ∙ ap (λ (x : ℕ). sum_below (8 * q) (λ j. unequal (bit_at a j) (bit_at b j)) + x) (sum-cong 8 (λ i l. ap₂ unequal (bit-of a q i l) (bit-of b q i l)))
