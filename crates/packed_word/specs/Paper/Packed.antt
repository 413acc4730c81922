-- Words of n bits, eight to a byte, bit 0 in the highest place of byte 0. (Document 01, "The code and the block".)
--   bit_at w j        == bit j of the packed word w
--   bytes_for n       == the bytes of a word of n bits
--   packed_byte n z q == byte q of such a word
--   pack n z          == the bytes of the word with bits z 0 .. z (n - 1), spare places zero
--   spare_set n w     == whether a spare place of the word w is set
--   Bytes w           == each element of w is a byte
--   distance n z c    == the number of places below n at which two words differ
-- Assumes nothing.
use Rattle.std.specs.Prelude.{ℕ, ◌+◌, ◌*◌, ◌-◌, ◌/◌, ◌%◌, ◌^◌, ◌<◌, Bool, List, eqb, ltb, get_or}
use Rattle.counting.specs.Paper.Sum.{sum_below, flag, unequal}
use Rattle.counting.specs.Paper.Search.{any_below}
use Rattle.counting.specs.Paper.Lists.{listed}

-- "eight to a byte, bit 0 in the highest place of byte 0"
unfoldable pub bit_at : List ℕ → ℕ → ℕ
bit_at w j = get_or w (j / 8) 0 / 2 ^ (7 - j % 8) % 2

-- "(n + 7) / 8 bytes rounded down"
abbrev pub bytes_for : ℕ → ℕ
bytes_for n = (n + 7) / 8

-- byte q of the word with bits z 0 .. z (n - 1): places from n on are zero
unfoldable pub packed_byte : ℕ → (ℕ → ℕ) → ℕ → ℕ
packed_byte n z q = sum_below 8 (λ i. flag (ltb (8 * q + i) n) * z (8 * q + i) * 2 ^ (7 - i))

-- the bytes of a word
unfoldable pub pack : ℕ → (ℕ → ℕ) → List ℕ
pack n z = listed (bytes_for n) (packed_byte n z)

-- "a spare place set": a low place of the last byte that holds no bit of the word
unfoldable pub spare_set : ℕ → List ℕ → Bool
spare_set n w = any_below (λ i. eqb (bit_at w (n + i)) 1) (8 * bytes_for n - n)

-- a list of bytes
unfoldable pub Bytes : List ℕ → Type 0
Bytes w = (q : ℕ) → get_or w q 0 < 256

-- "positions at which the word .. differs"
unfoldable pub distance : ℕ → (ℕ → ℕ) → (ℕ → ℕ) → ℕ
distance n z c = sum_below n (λ j. unequal (z j) (c j))
