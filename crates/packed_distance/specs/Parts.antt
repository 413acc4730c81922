-- What the parts of the count say.
--   apart x y         == the number of places at which two bytes differ
--   apart_in a b q k  == the number of places at which the k bytes from byte q on differ
--   WordRead w q k x  == x is the number that the k numbers of w from place q on make, and each of these is a byte
-- Assumes nothing.
use Rattle.std.specs.Prelude.{ℕ, ◌+◌, ◌-◌, ◌/◌, ◌%◌, ◌^◌, ◌<◌, ◌≤◌, ◌≡◌, List, get_or}
use Rattle.counting.specs.Paper.Sum.{sum_below, unequal}
use Rattle.packed_distance.specs.Paper.Words.{word_at}

-- the places, of eight, at which two bytes differ, the highest first
unfoldable pub apart : ℕ → ℕ → ℕ
apart x y = sum_below 8 (λ i. unequal (x / 2 ^ (7 - i) % 2) (y / 2 ^ (7 - i) % 2))

-- the places at which k bytes of two runs differ
unfoldable pub apart_in : List ℕ → List ℕ → ℕ → ℕ → ℕ
apart_in a b q k = sum_below k (λ i. apart (get_or a (q + i) 0) (get_or b (q + i) 0))

-- a word that was read, and that it was read from bytes
pub record WordRead (w : List ℕ) (q k x : ℕ) : Type 0 where
  pub value : x ≡ word_at w q k
  pub bytes : (i : ℕ) → q ≤ i → i < q + k → get_or w i 0 < 256
