-- The bits in which two sets differ, counted word by word.
--   word-few                 == two words differ in 64 bits at most
--   word-most                == the same of the bits in which they differ
--   word-bits                == the ones of two words' difference are the bits in which they differ
--   apart-few                == two sets of at most sixteen words differ in 1,024 bits at most
--   sums-few                 == so does the count of the first words, 64 for each of them
--   ones_none, ones_step     == over no words the ones are none, and one word more adds its own
--   words-none, words_step   == the same of the bits in which the words differ
--   words-sets               == the bits of the words are those of the sets
--   failing-apart            == a set of checks differs from the empty set in as many bits as it has checks
--   failing-sets             == the same of the ones of its words
-- Assumes nothing.
use mathlib.Core.Path.{◌≡◌, refl, sym, ap, ap₂, ◌∙◌}
use mathlib.Core.List.{List}
use Prim.Native.Nat.{ℕ, zero, suc, ◌+◌, ◌*◌, ◌-◌, ◌/◌, ◌%◌, ◌^◌, ◌<◌, ◌≤◌}
use native.Mathlib.Numerals.{add-one}
use native.Mathlib.Omega.{arith}
use lib.Bits.{bit_xor, xor_lt}
use lib.Count.{ones, ones-le}
use lib.Dec.{lit<}
use lib.ListN.{length, replicate}
use Rattle.counting.specs.Digits.{binary_digit}
use Rattle.counting.specs.Paper.Sum.{sum_below, unequal}
use Rattle.counting.specs.Places.{at}
use Rattle.counting.proofs.Digits.{digit-xor}
use Rattle.counting.proofs.Sums.{sum-cong, sum-zero, sum_bound, sum-append, sum-flat, differ-le}
use Rattle.counting.proofs.Writes.{zeros}
use Rattle.matrix.specs.Paper.Code.{Matrix}
use Rattle.syndrome_words.specs.Sets.{bit_in, Within, set_failing}
use Rattle.syndrome_words.proofs.Sets.{bit-bit, zero_bit}
use Rattle.syndrome_words.proofs.Digits.{ones-digits}
use Rattle.syndrome_sets.specs.Counts.{word_apart, sets_apart}

-- ---- two words

-- of 64 bits each
pub word-few : (x y : ℕ) → x < 2 ^ 64 → y < 2 ^ 64 → ones (bit_xor x y) ≤ 64
word-few x y h l = ones-le 64 (bit_xor x y) (xor_lt 64 x y h l)

xor-differ : (x y : ℕ) → x < 2 → y < 2 → bit_xor x y ≡ unequal x y
unfolding unequal
xor-differ zero zero h l = refl
xor-differ zero (suc zero) h l = refl
xor-differ zero (suc (suc y)) h l = absurd (omega arith)
xor-differ (suc zero) zero h l = refl
xor-differ (suc zero) (suc zero) h l = refl
xor-differ (suc zero) (suc (suc y)) h l = absurd (omega arith)
xor-differ (suc (suc x)) y h l = absurd (omega arith)

-- the bits in which they differ
pub word-bits : (x y : ℕ) → x < 2 ^ 64 → y < 2 ^ 64 → ones (bit_xor x y) ≡ word_apart x y
unfolding word_apart
word-bits x y h l =
    ones-digits (bit_xor x y) (xor_lt 64 x y h l)
    ∙ sum-cong 64 (λ k b. digit-xor x y k ∙ xor-differ (binary_digit x k) (binary_digit y k) (omega arith) (omega arith))

-- of which there are 64
pub word-most : (r x y : ℕ) → r ≡ word_apart x y → r ≤ 64
unfolding word_apart
word-most r x y e = rw e (sum_bound 64 1 (λ k h. differ-le (binary_digit x k) (binary_digit y k)))

-- ---- the words of two sets

-- bit k of word v
word-bit : (x : List ℕ) (v k : ℕ) → k < 64 → bit_in x 0 (v * 64 + k) ≡ binary_digit (at x v) k
unfolding bit_in
word-bit x v k l =
    let word : 0 + (v * 64 + k) / 64 ≡ v = omega arith in
    let place : (v * 64 + k) % 64 ≡ k = omega arith in
    ap₂ (λ (w j : ℕ). binary_digit (at x w) j) word place

-- sixteen words
pub apart-few : (words : ℕ) (a b : List ℕ) → words ≤ 16 → ((w : ℕ) → at a w < 2 ^ 64) → ((w : ℕ) → at b w < 2 ^ 64)
    → sum_below words (λ w. ones (bit_xor (at a w) (at b w))) ≤ 1024
apart-few words a b few ha hb = omega (arith, each)
  where
    each : sum_below words (λ w. ones (bit_xor (at a w) (at b w))) ≤ words * 64
    each = sum_bound words 64 (λ w h. word-few (at a w) (at b w) (ha w) (hb w))

module _ (a b : List ℕ) where
  -- no words
  pub ones_none : 0 ≡ sum_below 0 (λ v. ones (bit_xor (at a v) (at b v)))
  unfolding sum_below
  ones_none = refl

  pub words-none : 0 ≡ sum_below 0 (λ v. word_apart (at a v) (at b v))
  unfolding sum_below
  words-none = refl

  -- one word more
  pub ones_step : (w t r : ℕ) → t ≡ sum_below w (λ v. ones (bit_xor (at a v) (at b v))) → r ≡ ones (bit_xor (at a w) (at b w))
      → t + r ≡ sum_below (w + 1) (λ v. ones (bit_xor (at a v) (at b v)))
  unfolding sum_below
  ones_step w t r e q = rw (add-one w) (ap₂ ◌+◌ e q)

  pub words_step : (w t r : ℕ) → t ≡ sum_below w (λ v. word_apart (at a v) (at b v)) → r ≡ word_apart (at a w) (at b w)
      → t + r ≡ sum_below (w + 1) (λ v. word_apart (at a v) (at b v))
  unfolding sum_below
  words_step w t r e q = rw (add-one w) (ap₂ ◌+◌ e q)

  -- 64 for each of them
  pub sums-few : (w t : ℕ) → t ≡ sum_below w (λ v. word_apart (at a v) (at b v)) → t ≤ w * 64
  sums-few w t e = rw e (sum_bound w 64 (λ v h. word-most (word_apart (at a v) (at b v)) (at a v) (at b v) refl))

  -- the bits of the words are those of the sets
  pub words-sets : (words t : ℕ) → t ≡ sum_below words (λ v. word_apart (at a v) (at b v)) → t ≡ sets_apart words a b
  unfolding sets_apart word_apart
  words-sets words t e =
      e ∙ sym (sum-flat words 64 (λ i. unequal (bit_in a 0 i) (bit_in b 0 i)) ∙ sum-cong words (λ v h. sum-cong 64 (λ k l. ap₂ unequal (word-bit a v k l) (word-bit b v k l))))

-- ---- how many checks a set has

differ-none : (x : ℕ) → x < 2 → unequal x 0 ≡ x
unfolding unequal
differ-none zero h = refl
differ-none (suc zero) h = refl
differ-none (suc (suc x)) h = absurd (omega arith)

-- in as many bits it differs from the empty set
pub failing-apart : (H : Matrix) → H.m ≤ 1023 → (p q : List ℕ) → Within H.m p → q ≡ replicate 16 0
    → sets_apart ((H.m + 63) / 64) p q ≡ set_failing H p
unfolding sets_apart set_failing
failing-apart H few p q past e =
    sum-cong (words * 64) (λ i h. ap (unequal (bit_in p 0 i)) (empty i) ∙ differ-none (bit_in p 0 i) (bit-bit p 0 i))
    ∙ ap (λ (k : ℕ). sum_below k (bit_in p 0)) parts
    ∙ sum-append H.m rest (bit_in p 0)
    ∙ omega (arith, none)
  where
    words : ℕ
    words = (H.m + 63) / 64

    rest : ℕ
    rest = words * 64 - H.m

    empty : (i : ℕ) → bit_in q 0 i ≡ 0
    empty i = ap (λ (y : List ℕ). bit_in y 0 i) e ∙ zero_bit i

    parts : words * 64 ≡ H.m + rest
    parts = omega arith

    none : sum_below rest (λ k. bit_in p 0 (H.m + k)) ≡ 0
    none = sum-zero rest (λ k h. past (H.m + k) (omega arith) (omega arith))

-- and so many ones its words have
pub failing-sets : (H : Matrix) → H.m ≤ 1023 → (p q : List ℕ) → length p ≡ 16 → ((w : ℕ) → at p w < 2 ^ 64) → Within H.m p
    → q ≡ replicate 16 0 → sum_below ((H.m + 63) / 64) (λ w. ones (bit_xor (at p w) (at q w))) ≡ set_failing H p
failing-sets H few p q long fit past e =
    words-sets p q ((H.m + 63) / 64) (sum_below ((H.m + 63) / 64) (λ w. ones (bit_xor (at p w) (at q w))))
    (sum-cong ((H.m + 63) / 64) (λ w h. word-bits (at p w) (at q w) (fit w) (empty w)))
    ∙ failing-apart H few p q past e
  where
    empty : (w : ℕ) → at q w < 2 ^ 64
    empty w = rw e (rw (zeros 16 w) (lit< tt))
