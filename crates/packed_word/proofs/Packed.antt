-- Laws of packed words: the bits and bytes of `pack`, its spare places, and packing back what was read.
--   bit-bit                    == a bit of a word is 0 or 1
--   bit_past                   == past its last byte a word has no ones
--   bit-of                     == bit i of byte q is digit 7 - i of the byte
--   bits_below                 == the bits of z below n, and none from n on
--   below_in, below_out        == of these, those below n are as they were and the others 0
--   below-bit, below-small     == each of them is 0 or 1
--   below-cong                 == of bits that agree below n these agree everywhere
--   length-pack                == a packed word has the bytes for n bits
--   byte-pack                  == byte q of a packed word is made of its eight bits
--   packed-small               == a byte made of bits is below 256
--   bit_at-pack                == the bits of a packed word are those that were packed
--   spare-pack                 == its spare places are 0
--   bytes-pack                 == it consists of bytes
--   pack-cong                  == bits that agree below n are packed alike
--   spare_one                  == whether the spare place n + i is set
--   spare-clear, clear-spare   == no spare place is set exactly where all of them are 0
--   pack-bit_at                == a word with clear spare places is the packing of its bits
--   spare-asked                == the places asked from n on are the spare places
-- Assumes nothing.
use mathlib.Core.Path.{◌≡◌, refl, sym, ap, ◌∙◌}
use mathlib.Core.Bool.{Bool, false, ◌||◌, or-false, or_assoc}
use mathlib.Core.List.{List}
use Prim.Native.Nat.{ℕ, zero, suc, ◌+◌, ◌*◌, ◌-◌, ◌/◌, ◌%◌, ◌^◌, ◌≤◌, ◌<◌}
use native.Mathlib.Nat.{zero-div, zero-mul, one-mul}
use native.Mathlib.Decide.{dec_lt}
use native.Mathlib.Omega.{arith}
use lib.Dec.{eqb, ltb}
use borrow.Author.Tests.{lt-ltb, le-ltb, eqb-false, ne_eqb}
use lib.ListN.{length, get_or, get_or-eq_default}
use lib.Seq.{ext_get_or}
use Rattle.std.specs.List.{list_any, range_with_len}
use Rattle.counting.specs.Paper.Sum.{flag}
use Rattle.counting.specs.Paper.Search.{any_below}
use Rattle.counting.proofs.Sums.{sum-cong}
use Rattle.counting.proofs.Searches.{any_none, any-clear, any-cong}
use Rattle.counting.proofs.Writes.{length-listed, get_or-listed, listed-cong}
use Rattle.packed_word.specs.Paper.Packed.{bit_at, bytes_for, packed_byte, pack, spare_set, Bytes}
use Rattle.counting.specs.Digits.{binary_digit}
use Rattle.packed_word.proofs.Digits.{byte_small, digit-byte, byte-digit}

-- a bit of a word is 0 or 1
pub bit-bit : (w : List ℕ) (j : ℕ) → bit_at w j < 2
unfolding bit_at
bit-bit w j = omega arith

-- past its last byte a word has no ones
pub bit_past : (w : List ℕ) (j : ℕ) → length w ≤ j / 8 → bit_at w j ≡ 0
unfolding bit_at
bit_past w j h = ap (λ (x : ℕ). binary_digit x (7 - j % 8)) (get_or-eq_default w 0 h) ∙ ap (λ (x : ℕ). x % 2) (zero-div (2 ^ (7 - j % 8)))

-- bit i of byte q
pub bit-of : (w : List ℕ) (q i : ℕ) → i < 8 → bit_at w (8 * q + i) ≡ binary_digit (get_or w q 0) (7 - i)
unfolding bit_at
bit-of w q i l =
    let e : (8 * q + i) / 8 ≡ q = omega arith in
    let e' : (8 * q + i) % 8 ≡ i = omega arith in
    rw (e, e')

-- ---- a word that ends at n

-- the bits of z below n, and none from n on
abbrev pub bits_below : ℕ → (ℕ → ℕ) → ℕ → ℕ
bits_below n z j = flag (ltb j n) * z j

-- of these, those below n are as they were and the others 0
pub below_in : (n : ℕ) (z : ℕ → ℕ) (j : ℕ) → j < n → bits_below n z j ≡ z j
below_in n z j l = ap (λ (t : Bool). flag t * z j) (lt-ltb j n l) ∙ one-mul (z j)

pub below_out : (n : ℕ) (z : ℕ → ℕ) (j : ℕ) → n ≤ j → bits_below n z j ≡ 0
below_out n z j l = ap (λ (t : Bool). flag t * z j) (le-ltb j n l) ∙ zero-mul (z j)

-- each of them is 0 or 1
pub below-bit : (n : ℕ) (z : ℕ → ℕ) → ((j : ℕ) → j < n → z j < 2) → (j : ℕ) → bits_below n z j < 2
below-bit n z h j =
    elim (dec_lt j n) [ yes l ↦ omega (arith, below_in n z j l, h j l) | no g ↦ omega (arith, below_out n z j (omega arith)) ]

pub below-small : (n : ℕ) (z : ℕ → ℕ) → ((j : ℕ) → j < n → z j < 2) → (r j : ℕ) → r ≡ bits_below n z j → r < 2
below-small n z h r j e = omega (arith, below-bit n z h j)

-- bits that agree below n
pub below-cong : (n : ℕ) (z c : ℕ → ℕ) → ((j : ℕ) → j < n → z j ≡ c j) → (j : ℕ) → bits_below n z j ≡ bits_below n c j
below-cong n z c h j =
    elim (dec_lt j n) [
      | yes l ↦ below_in n z j l ∙ h j l ∙ sym (below_in n c j l)
      | no g ↦ below_out n z j (omega arith) ∙ sym (below_out n c j (omega arith))
    ]

-- ---- packing

-- a packed word has the bytes for n bits
pub length-pack : (n : ℕ) (z : ℕ → ℕ) → length (pack n z) ≡ bytes_for n
unfolding pack
length-pack n z = length-listed (bytes_for n) (packed_byte n z)

-- byte q
pub byte-pack : (n : ℕ) (z : ℕ → ℕ) (q : ℕ) → q < bytes_for n → get_or (pack n z) q 0 ≡ packed_byte n z q
unfolding pack
byte-pack n z q l = get_or-listed (bytes_for n) (packed_byte n z) q 0 l

module _ (n : ℕ) (z : ℕ → ℕ) (bits : (j : ℕ) → j < n → z j < 2) where
  digit-packed : (q i : ℕ) → i < 8 → binary_digit (packed_byte n z q) (7 - i) ≡ bits_below n z (8 * q + i)
  unfolding packed_byte
  digit-packed q i l = digit-byte (λ i. bits_below n z (8 * q + i)) (λ i l. below-bit n z bits (8 * q + i)) i l

  -- a byte made of bits is below 256
  pub packed-small : (q : ℕ) → packed_byte n z q < 256
  unfolding packed_byte
  packed-small q = byte_small (λ i. bits_below n z (8 * q + i)) (λ i l. below-bit n z bits (8 * q + i))

  -- a bit of a byte of the word
  bit_at-below : (j : ℕ) → j / 8 < bytes_for n → bit_at (pack n z) j ≡ bits_below n z j
  unfolding bit_at
  bit_at-below j l =
      let e : 8 * (j / 8) + j % 8 ≡ j = omega arith in
      ap (λ (x : ℕ). binary_digit x (7 - j % 8)) (byte-pack n z (j / 8) l) ∙ digit-packed (j / 8) (j % 8) (omega arith) ∙ ap (bits_below n z) e

  -- the bits of a packed word are those that were packed
  pub bit_at-pack : (j : ℕ) → j < n → bit_at (pack n z) j ≡ z j
  bit_at-pack j l = bit_at-below j (omega arith) ∙ below_in n z j l

  -- its spare places are 0
  pub spare-pack : (j : ℕ) → n ≤ j → bit_at (pack n z) j ≡ 0
  spare-pack j l =
      elim (dec_lt (j / 8) (bytes_for n)) [
        | yes h ↦ bit_at-below j h ∙ below_out n z j l
        | no g ↦ bit_past (pack n z) j (omega (arith, length-pack n z))
      ]

  -- it consists of bytes
  pub bytes-pack : Bytes (pack n z)
  unfolding Bytes
  bytes-pack q =
      elim (dec_lt q (bytes_for n)) [
        | yes h ↦ omega (arith, byte-pack n z q h, packed-small q)
        | no g ↦ omega (arith, get_or-eq_default (pack n z) 0 {n = q} (omega (arith, length-pack n z)))
      ]

-- bits that agree below n are packed alike
pub pack-cong : (n : ℕ) (z c : ℕ → ℕ) → ((j : ℕ) → j < n → z j ≡ c j) → pack n z ≡ pack n c
unfolding pack packed_byte
pack-cong n z c h =
    listed-cong (bytes_for n) (packed_byte n z) (packed_byte n c)
    (λ q m. sum-cong 8 (λ i l. ap (λ (x : ℕ). x * 2 ^ (7 - i)) (below-cong n z c h (8 * q + i))))

-- ---- spare places

-- whether the spare place n + i is set
abbrev pub spare_one : ℕ → List ℕ → ℕ → Bool
spare_one n w i = eqb (bit_at w (n + i)) 1

-- no spare place is set exactly where all of them are 0
pub spare-clear : (n : ℕ) (w : List ℕ) → spare_set n w ≡ false → (j : ℕ) → n ≤ j → j < 8 * bytes_for n → bit_at w j ≡ 0
unfolding spare_set
spare-clear n w h j l m =
    let e : n + (j - n) ≡ j = omega arith in
    let off : eqb (bit_at w (n + (j - n))) 1 ≡ false = any-clear (spare_one n w) (8 * bytes_for n - n) h (j - n) (omega arith) in
    let not-one : bit_at w j ≡ 1 → ⊥ = eqb-false (bit_at w j) 1 (ap (λ (x : ℕ). eqb (bit_at w x) 1) (sym e) ∙ off) in
    omega (arith, bit-bit w j, not-one)

pub clear-spare : (n : ℕ) (w : List ℕ) → ((j : ℕ) → n ≤ j → j < 8 * bytes_for n → bit_at w j ≡ 0) → spare_set n w ≡ false
unfolding spare_set
clear-spare n w h =
    any_none (spare_one n w) (8 * bytes_for n - n) (λ i l. ne_eqb (bit_at w (n + i)) 1 (λ e. omega (arith, h (n + i) (omega arith) (omega arith))))

-- a word with clear spare places is the packing of its bits
pub pack-bit_at : (n : ℕ) (w : List ℕ) → Bytes w → length w ≡ bytes_for n → spare_set n w ≡ false → pack n (bit_at w) ≡ w
unfolding Bytes packed_byte
pack-bit_at n w small long clear =
    ext_get_or 0 (pack n (bit_at w)) w (length-pack n (bit_at w) ∙ sym long) same
  where
    bit : (q i : ℕ) → q < bytes_for n → i < 8 → bits_below n (bit_at w) (8 * q + i) ≡ binary_digit (get_or w q 0) (7 - i)
    bit q i h l =
        elim (dec_lt (8 * q + i) n) [
          | yes m ↦ below_in n (bit_at w) (8 * q + i) m ∙ bit-of w q i l
          | no g ↦ below_out n (bit_at w) (8 * q + i) (omega arith) ∙ sym (spare-clear n w clear (8 * q + i) (omega arith) (omega arith)) ∙ bit-of w q i l
        ]

    same : (q : ℕ) → q < length (pack n (bit_at w)) → get_or (pack n (bit_at w)) q 0 ≡ get_or w q 0
    same q l =
        let h : q < bytes_for n = omega (arith, length-pack n (bit_at w)) in
        byte-pack n (bit_at w) q h ∙ sum-cong 8 (λ i m. ap (λ (x : ℕ). x * 2 ^ (7 - i)) (bit q i h m)) ∙ byte-digit (get_or w q 0) (small q)

-- a search from the front: the first place, or one after it
any-front : (t : ℕ → Bool) (k : ℕ) → any_below t (suc k) ≡ (t 0 || any_below (λ i. t (suc i)) k)
unfolding any_below
any-front t zero = sym (or-false (t 0))
any-front t (suc k) = ap (λ (b : Bool). b || t (suc k)) (any-front t k) ∙ or_assoc (t 0) (any_below (λ i. t (suc i)) k) (t (suc k))

-- whether some number of a range passes is whether one below its length does, counted from its start
any-range : (t : ℕ → Bool) (k a : ℕ) → list_any t (range_with_len a k) ≡ any_below (λ i. t (a + i)) k
unfolding any_below
any-range t zero a = refl
any-range t (suc k) a =
    let z : a ≡ a + 0 = omega arith in
    ap (λ (x : ℕ). t x || list_any t (range_with_len (a + 1) k)) z
    ∙ ap (λ (b : Bool). t (a + 0) || b) (any-range t k (a + 1) ∙ any-cong (λ i. t (a + 1 + i)) (λ i. t (a + suc i)) k (λ i l. let e : a + 1 + i ≡ a + suc i = omega arith in ap t e))
    ∙ sym (any-front (λ i. t (a + i)) k)

-- the places asked from n on are the spare places
pub spare-asked : (n : ℕ) (w : List ℕ) → list_any (λ j. eqb (bit_at w j) 1) (range_with_len n (8 * bytes_for n - n)) ≡ spare_set n w
unfolding spare_set
spare-asked n w = any-range (λ j. eqb (bit_at w j) 1) (8 * bytes_for n - n) n
