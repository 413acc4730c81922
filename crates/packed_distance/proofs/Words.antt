-- Words of several bytes: the ones of their difference are the places at which their bytes differ.
--   read_none       == of no bytes the number is 0
--   read_more       == one byte more at the low end
--   word-apart      == the ones of the difference of words of k bytes
--   counts-places   == document 02, card 4: counted by words, and the last bytes singly, it is the number of places at which two runs differ
-- Assumes nothing.
use mathlib.Core.Path.{◌≡◌, refl, ap, ◌∙◌}
use mathlib.Core.List.{List}
use Prim.Native.Nat.{ℕ, zero, suc, ◌+◌, ◌*◌, ◌-◌, ◌/◌, ◌%◌, ◌^◌, ◌<◌, ◌≤◌}
use native.Mathlib.Omega.{arith}
use native.Mathlib.Decide.{ℕ_discrete}
use lib.Bits.{bit_xor, xor_block, xor_lt}
use lib.Count.{ones, ones_cat}
use lib.ListN.{length, get_or}
use Rattle.counting.specs.Paper.Sum.{sum_below}
use Rattle.counting.proofs.Sums.{sum-cong}
use Rattle.packed_word.specs.Paper.Packed.{Bytes}
use Rattle.packed_distance.specs.Paper.Words.{word_at, words_apart, bytes_apart, apart_by_words, CountsPlaces}
use Rattle.packed_distance.specs.Parts.{apart, apart_in, WordRead}
use Rattle.packed_distance.proofs.Counts.{byte-apart}
use Rattle.packed_distance.proofs.Parts.{apart_none, apart-first, apart_words, apart-long}

-- ---- words that are read

module _ (w : List ℕ) where
  -- of no bytes
  pub read_none : (q : ℕ) → WordRead w q 0 0
  unfolding word_at
  read_none q = record { value = refl; bytes = λ i h l. absurd (omega arith) }

  -- one byte more at the low end
  pub read_more : (q k x r : ℕ) → WordRead w (q + 1) k x → r ≡ get_or w q 0 → r < 256 → WordRead w q (suc k) (x * 256 + r)
  unfolding word_at
  read_more q k x r p e h =
      record {
        value = omega (arith, p.value);
        bytes = λ i g l.
            elim (ℕ_discrete i q) [ yes f ↦ omega (arith, ap (λ (j : ℕ). get_or w j 0) f) | no f ↦ p.bytes i (omega arith) (omega arith) ];
      }

-- ---- the ones of their difference

-- one byte more at the low end of two numbers
grown : (x y r s : ℕ) → r < 256 → s < 256 → ones (bit_xor (x * 2 ^ 8 + r) (y * 2 ^ 8 + s)) ≡ ones (bit_xor x y) + apart r s
grown x y r s h l =
    ap ones (xor_block 8 x y r s h l)
    ∙ ones_cat 8 (bit_xor x y) (bit_xor r s) (xor_lt 8 r s h l)
    ∙ ap (λ (k : ℕ). ones (bit_xor x y) + k) (byte-apart r s h l)

module _ (a b : List ℕ) where
  -- words of k bytes
  pub word-apart : (q k : ℕ) → ((i : ℕ) → q ≤ i → i < q + k → get_or a i 0 < 256) → ((i : ℕ) → q ≤ i → i < q + k → get_or b i 0 < 256)
      → ones (bit_xor (word_at a q k) (word_at b q k)) ≡ apart_in a b q k
  unfolding word_at ones
  word-apart q zero ha hb = apart_none a b q
  word-apart q (suc k) ha hb =
      omega (
        arith,
        grown (word_at a (q + 1) k) (word_at b (q + 1) k) (get_or a q 0) (get_or b q 0) (ha q (omega arith) (omega arith)) (hb q (omega arith) (omega arith)),
        word-apart (q + 1) k (λ i g l. ha i (omega arith) (omega arith)) (λ i g l. hb i (omega arith) (omega arith)),
        apart-first a b q k,
      )

  module _ (ha : Bytes a) (hb : Bytes b) where
    -- all words
    words-apart : (k : ℕ) → words_apart a b k ≡ apart_in a b 0 (8 * k)
    unfolding words_apart sum_below Bytes
    words-apart zero = apart_none a b 0
    words-apart (suc k) =
        let next : 8 * suc k ≡ 8 * (k + 1) = omega arith in
        omega (
          arith,
          words-apart k,
          word-apart (8 * k) 8 (λ i g l. ha i) (λ i g l. hb i),
          apart_words a b k,
          ap (apart_in a b 0) next,
        )

    -- the last bytes
    bytes_apart_lem : (q k : ℕ) → bytes_apart a b q k ≡ apart_in a b q k
    unfolding bytes_apart apart_in Bytes
    bytes_apart_lem q k = sum-cong k (λ i h. byte-apart (get_or a (q + i) 0) (get_or b (q + i) 0) (ha (q + i)) (hb (q + i)))

-- "for any two runs of bytes of equal length .. this is the number of places at which they differ"
pub counts-places : CountsPlaces
unfolding apart_by_words
counts-places a b ha hb e =
    let n : ℕ = length a in
    let rest : n - 8 * (n / 8) ≡ n % 8 = omega arith in
    omega (
      arith,
      words-apart a b ha hb (n / 8),
      bytes_apart_lem a b ha hb (8 * (n / 8)) (n % 8),
      apart-long a b (8 * (n / 8)) n (omega arith),
      ap (apart_in a b (8 * (n / 8))) rest,
    )
