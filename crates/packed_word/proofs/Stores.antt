-- What one store does to a packed word, and the word that is made bit by bit.
--   bit-set, bit-flipped   == a stored byte with one bit set or turned over sets or turns over that bit of the word alone
--   eight                  == bit i of byte q of the word with bits z that ends at n
--   binary_of              == the number with bits f 0 .. f (i - 1), the highest first
--   binary-none            == the number without bits is 0
--   binary-more            == one bit more at the low end makes the next number
--   binary-all             == eight bits make the packed byte
--   binary-room            == fewer than eight bits leave room for one more
--   over-next              == one byte more is written
-- Assumes nothing.
use mathlib.Core.Path.{◌≡◌, refl, sym, ap, ◌∙◌}
use mathlib.Core.List.{List}
use Prim.Native.Nat.{ℕ, zero, suc, ◌+◌, ◌*◌, ◌-◌, ◌/◌, ◌%◌, ◌^◌, ◌<◌}
use native.Mathlib.Nat.{pow-suc}
use native.Mathlib.Numerals.{add-one}
use native.Mathlib.Decide.{ℕ_discrete}
use native.Mathlib.Omega.{arith}
use lib.Pow.{pow_mono}
use lib.Bits.{bit_or, bit_xor}
use lib.ListN.{length, get_or, set, length-set}
use lib.Seq.{get_or-set_same, get_or-set_other}
use Rattle.counting.specs.Paper.Sum.{sum_below}
use Rattle.counting.specs.Paper.Lists.{listed, over}
use Rattle.counting.proofs.Writes.{over-more}
use Rattle.packed_word.specs.Paper.Packed.{bit_at, packed_byte}
use Rattle.packed_word.specs.Steps.{SetBit, FlipBit}
use Rattle.counting.specs.Digits.{binary_digit}
use Rattle.counting.proofs.Digits.{or-here, or-there}
use Rattle.packed_word.proofs.Masks.{xor-here, xor-there}
use Rattle.packed_word.proofs.Packed.{bits_below}

-- ---- one byte of a packed word

module _ (w : List ℕ) (j v : ℕ) (fits : j / 8 < length w) where
  stored_here : bit_at (set w (j / 8) v) j ≡ binary_digit v (7 - j % 8)
  unfolding bit_at
  stored_here = ap (λ (x : ℕ). binary_digit x (7 - j % 8)) (get_or-set_same w (j / 8) v 0 fits)

  stored_there : ((l : ℕ) → (l ≡ 7 - j % 8 → ⊥) → binary_digit v l ≡ binary_digit (get_or w (j / 8) 0) l) → (k : ℕ) → (k ≡ j → ⊥)
      → bit_at (set w (j / 8) v) k ≡ bit_at w k
  unfolding bit_at
  stored_there same k h =
      elim (ℕ_discrete (k / 8) (j / 8)) [
        | yes e ↦
            ap (λ (x : ℕ). binary_digit (get_or (set w (j / 8) v) x 0) (7 - k % 8)) e
            ∙ ap (λ (x : ℕ). binary_digit x (7 - k % 8)) (get_or-set_same w (j / 8) v 0 fits)
            ∙ same (7 - k % 8) (λ q. h (omega arith))
            ∙ ap (λ (x : ℕ). binary_digit (get_or w x 0) (7 - k % 8)) (sym e)
        | no f ↦ ap (λ (x : ℕ). binary_digit x (7 - k % 8)) (get_or-set_other w (j / 8) (k / 8) v 0 f)
      ]

module _ (w : List ℕ) (j : ℕ) (fits : j / 8 < length w) where
  -- a stored byte with one bit set or turned over sets or turns over that bit of the word alone
  pub bit-set : SetBit w (set w (j / 8) (bit_or (get_or w (j / 8) 0) (2 ^ (7 - j % 8)))) j
  bit-set =
      let b : ℕ = get_or w (j / 8) 0 in
      let s : ℕ = 7 - j % 8 in
      let v : ℕ = bit_or b (2 ^ s) in
      record {
        long = length-set w (j / 8) v;
        here = stored_here w j v fits ∙ or-here b s;
        there = stored_there w j v fits (or-there b s);
      }

  pub bit-flipped : FlipBit w (set w (j / 8) (bit_xor (get_or w (j / 8) 0) (2 ^ (7 - j % 8)))) j
  unfolding bit_at
  bit-flipped =
      let b : ℕ = get_or w (j / 8) 0 in
      let s : ℕ = 7 - j % 8 in
      let v : ℕ = bit_xor b (2 ^ s) in
      record {
        long = length-set w (j / 8) v;
        here = stored_here w j v fits ∙ xor-here b s;
        there = stored_there w j v fits (xor-there b s);
      }

-- ---- packing

-- bit i of byte q of the word with bits z that ends at n
abbrev pub eight : ℕ → (ℕ → ℕ) → ℕ → ℕ → ℕ
eight n z q i = bits_below n z (8 * q + i)

-- the number with bits f 0 .. f (i - 1), the highest first
unfoldable pub binary_of : (ℕ → ℕ) → ℕ → ℕ
binary_of f zero = 0
binary_of f (suc i) = 2 * binary_of f i + f i

-- the number without bits is 0
pub binary-none : (f : ℕ → ℕ) → 0 ≡ binary_of f 0
unfolding binary_of
binary-none f = refl

-- one bit more at the low end makes the next number
pub binary-more : (f : ℕ → ℕ) (i b x r : ℕ) → b ≡ binary_of f i → x ≡ f i → r ≡ 2 * b + x → r ≡ binary_of f (i + 1)
unfolding binary_of
binary-more f i b x r p q e = rw (add-one i) (omega arith)

-- eight bits make the packed byte
pub binary-all : (n : ℕ) (z : ℕ → ℕ) (q : ℕ) → binary_of (eight n z q) 8 ≡ packed_byte n z q
unfolding binary_of packed_byte sum_below
binary-all n z q = omega arith

binary-small : (f : ℕ → ℕ) (i : ℕ) → ((k : ℕ) → f k < 2) → binary_of f i < 2 ^ i
unfolding binary_of
binary-small f zero h = omega arith
binary-small f (suc i) h = rw (pow-suc 2 i) (omega (arith, binary-small f i h, h i))

-- seven bits leave room for one more
pub binary-room : (f : ℕ → ℕ) (i : ℕ) → ((k : ℕ) → f k < 2) → i < 8 → binary_of f i < 128
binary-room f i h l = omega (arith, binary-small f i h, pow_mono {i = i} {j = 7} (omega arith))

-- one byte more is written
pub over-next : (f : ℕ → ℕ) (old new : List ℕ) (q x : ℕ) → q < length old → x ≡ f q → new ≡ over (listed q f) old → set new q x ≡ over (listed (q + 1) f) old
over-next f old new q x l e h = rw (h, e, add-one q) (over-more q f old l)
