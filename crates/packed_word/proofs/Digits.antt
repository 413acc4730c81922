-- Binary digits of a byte: the byte made of eight bits, and the eight bits of a byte.
--   byte         == the byte with bits f 0 .. f 7, the highest first
--   each-place   == what holds of each of the eight places holds of every place below 8
--   byte_small   == a byte made of eight bits is below 256
--   digit-byte   == its bits are those that it is made of
--   byte-digit   == the byte made of a byte's bits is that byte
-- Assumes nothing.
use mathlib.Core.Path.{◌≡◌, ap, ◌∙◌}
use Prim.Native.Nat.{ℕ, zero, suc, ◌+◌, ◌*◌, ◌-◌, ◌/◌, ◌^◌, ◌<◌}
use native.Mathlib.Nat.{div-eq_of_lt}
use native.Mathlib.Omega.{arith}
use lib.Pow.{shr-shr}
use native.Mathlib.Numerals.{add-one}
use Rattle.counting.specs.Digits.{binary_digit}
use Rattle.counting.specs.Paper.Sum.{sum_below}

-- the byte with bits f 0 .. f 7, the highest first
abbrev pub byte : (ℕ → ℕ) → ℕ
byte f = sum_below 8 (λ i. f i * 2 ^ (7 - i))

-- what holds of each of the eight places
pub each-place : (P : ℕ → Type 0) → P 0 → P 1 → P 2 → P 3 → P 4 → P 5 → P 6 → P 7 → (i : ℕ) → i < 8 → P i
each-place P a b c d e f g h zero l = a
each-place P a b c d e f g h (suc zero) l = b
each-place P a b c d e f g h (suc (suc zero)) l = c
each-place P a b c d e f g h (suc (suc (suc zero))) l = d
each-place P a b c d e f g h (suc (suc (suc (suc zero)))) l = e
each-place P a b c d e f g h (suc (suc (suc (suc (suc zero))))) l = f
each-place P a b c d e f g h (suc (suc (suc (suc (suc (suc zero)))))) l = g
each-place P a b c d e f g h (suc (suc (suc (suc (suc (suc (suc zero))))))) l = h
each-place P a b c d e f g h (suc (suc (suc (suc (suc (suc (suc (suc i)))))))) l = absurd (omega arith)

module _ (f : ℕ → ℕ) (bits : (i : ℕ) → i < 8 → f i < 2) where
  -- a byte made of eight bits is below 256
  pub byte_small : byte f < 256
  unfolding sum_below
  byte_small =
      omega (
        arith,
        bits 0 (omega arith),
        bits 1 (omega arith),
        bits 2 (omega arith),
        bits 3 (omega arith),
        bits 4 (omega arith),
        bits 5 (omega arith),
        bits 6 (omega arith),
        bits 7 (omega arith),
      )

  -- the bits of the byte made of bits
  pub digit-byte : (i : ℕ) → i < 8 → binary_digit (byte f) (7 - i) ≡ f i
  unfolding sum_below
  digit-byte =
      let b0 : f 0 < 2 = bits 0 (omega arith) in
      let b1 : f 1 < 2 = bits 1 (omega arith) in
      let b2 : f 2 < 2 = bits 2 (omega arith) in
      let b3 : f 3 < 2 = bits 3 (omega arith) in
      let b4 : f 4 < 2 = bits 4 (omega arith) in
      let b5 : f 5 < 2 = bits 5 (omega arith) in
      let b6 : f 6 < 2 = bits 6 (omega arith) in
      let b7 : f 7 < 2 = bits 7 (omega arith) in
      each-place (λ i. binary_digit (byte f) (7 - i) ≡ f i)
      (omega arith) (omega arith) (omega arith) (omega arith) (omega arith) (omega arith) (omega arith) (omega arith)

-- a number by its halves: each is twice the next, and one digit
halves : (a d : ℕ → ℕ) → ((k : ℕ) → a k ≡ 2 * a (suc k) + d k) → a 8 ≡ 0 → byte (λ i. d (7 - i)) ≡ a 0
unfolding sum_below
halves a d h e = omega (arith, h 0, h 1, h 2, h 3, h 4, h 5, h 6, h 7)

half : (v k : ℕ) → v / 2 ^ k ≡ 2 * (v / 2 ^ suc k) + binary_digit v k
half v k =
    let e : v / 2 ^ k / 2 ≡ v / 2 ^ suc k = shr-shr v k 1 ∙ ap (λ (x : ℕ). v / 2 ^ x) (add-one k) in
    omega arith

-- the byte made of a byte's bits
pub byte-digit : (v : ℕ) → v < 256 → byte (λ i. binary_digit v (7 - i)) ≡ v
byte-digit v h = halves (λ k. v / 2 ^ k) (binary_digit v) (half v) (div-eq_of_lt h) ∙ omega arith
