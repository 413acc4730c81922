-- Changed bits a word at a time. (Document 02, card 4.)
--   word_at w q k         == the number that the k bytes of w from byte q on make, low byte first
--   words_apart a b k     == the ones of the difference of the first k words, eight bytes each
--   bytes_apart a b q k   == the ones of the difference of the k bytes from byte q on, byte by byte
--   apart_by_words a b    == the card's count: all words of eight bytes, then the last bytes singly
--   CountsPlaces          == it is the number of places at which the two runs differ
-- Assumes nothing.
use Rattle.std.specs.Prelude.{ℕ, zero, suc, ◌+◌, ◌*◌, ◌/◌, ◌%◌, ◌^◌, ◌≡◌, List, length, get_or}
use Rattle.std.specs.Int.Bits.{bit_xor}
use Rattle.std.specs.Int.Count.{ones}
use Rattle.counting.specs.Paper.Sum.{sum_below}
use Rattle.packed_word.specs.Paper.Packed.{bit_at, Bytes, distance}

-- eight bytes are "sixty-four places"
unfoldable pub word_at : List ℕ → ℕ → ℕ → ℕ
word_at w q zero = 0
word_at w q (suc k) = word_at w (q + 1) k * 2 ^ 8 + get_or w q 0

-- "take sixty-four places at a time and count the ones of the difference"
unfoldable pub words_apart : List ℕ → List ℕ → ℕ → ℕ
words_apart a b k = sum_below k (λ i. ones (bit_xor (word_at a (8 * i) 8) (word_at b (8 * i) 8)))

-- "with the last few bytes done singly"
unfoldable pub bytes_apart : List ℕ → List ℕ → ℕ → ℕ → ℕ
bytes_apart a b q k = sum_below k (λ i. ones (bit_xor (get_or a (q + i) 0) (get_or b (q + i) 0)))

-- the count, for runs of any length
unfoldable pub apart_by_words : List ℕ → List ℕ → ℕ
apart_by_words a b = words_apart a b (length a / 8) + bytes_apart a b (8 * (length a / 8)) (length a % 8)

-- "for any two runs of bytes of equal length, from none to 128, this is the number of places at which they differ": for any length
abbrev pub CountsPlaces : Type 0
CountsPlaces = (a b : List ℕ) → Bytes a → Bytes b → length a ≡ length b → apart_by_words a b ≡ distance (8 * length a) (bit_at a) (bit_at b)
