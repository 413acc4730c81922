-- What is turned over makes the set of one word's failing checks that of another's.
--   digit-after   == a digit of a word that was turned over is its own, turned over by that digit of each listed column
--   turned-sets   == the set of one word turned over by the columns at which the other differs is the set of the other
-- Assumes nothing.
use mathlib.Core.Path.{◌≡◌, refl, sym, ap, ap₂, ◌∙◌}
use mathlib.Core.List.{List}
use Prim.Native.Nat.{ℕ, zero, suc, ◌+◌, ◌*◌, ◌/◌, ◌%◌, ◌<◌, ◌≤◌}
use native.Mathlib.Nat.{mul_comm}
use native.Mathlib.Decide.{dec_lt}
use native.Mathlib.Omega.{arith}
use lib.Bits.{bit_xor}
use borrow.Author.Tests.{le-leb, lt-leb}
use Rattle.counting.specs.Digits.{binary_digit}
use Rattle.counting.specs.Paper.Lists.{listed, over}
use Rattle.counting.specs.Paper.Sum.{sum_below, unequal}
use Rattle.counting.specs.Places.{at}
use Rattle.counting.proofs.Digits.{digit-xor}
use Rattle.counting.proofs.Sums.{sum-cong, sum-zero}
use Rattle.counting.proofs.Writes.{over-long, over-at, over-rest}
use Rattle.matrix.specs.Paper.Code.{Matrix, has, Word, fails}
use Rattle.matrix.specs.Paper.PlainCheck.{Accepted}
use Rattle.matrix.proofs.Rows.{row-sum}
use Rattle.matrix.proofs.Linear.{fails-differ}
use Rattle.syndrome.specs.Places.{Places}
use Rattle.syndrome.proofs.Lists.{places-sum}
use Rattle.syndrome_update.specs.Parities.{differing}
use Rattle.syndrome_words.specs.Sets.{bit_in, has_row, ColumnSets, Within, SetParities}
use Rattle.syndrome_words.proofs.Sets.{row-there, row-past}
use Rattle.syndrome_sets.specs.Turns.{word_after, words_for}

-- ---- one digit of a word

xor-sum : (x y : ℕ) → x < 2 → y < 2 → bit_xor x y ≡ (x + y) % 2
xor-sum zero zero h l = refl
xor-sum zero (suc zero) h l = refl
xor-sum zero (suc (suc y)) h l = absurd (omega arith)
xor-sum (suc zero) zero h l = refl
xor-sum (suc zero) (suc zero) h l = refl
xor-sum (suc zero) (suc (suc y)) h l = absurd (omega arith)
xor-sum (suc (suc x)) y h l = absurd (omega arith)

-- turned over by that digit of each listed column
pub digit-after : (x l : List ℕ) (t : ℕ) (p : List ℕ) (w k : ℕ)
    → binary_digit (word_after x l t p w) k ≡ (binary_digit (at p w) k + sum_below t (λ q. binary_digit (at x (16 * at l q + w)) k)) % 2
unfolding word_after sum_below
digit-after x l zero p w k = omega arith
digit-after x l (suc t) p w k =
    omega (
      arith,
      digit-xor (word_after x l t p w) (at x (16 * at l t + w)) k,
      xor-sum (binary_digit (word_after x l t p w) k) (binary_digit (at x (16 * at l t + w)) k) (omega arith) (omega arith),
      digit-after x l t p w k,
    )

-- ---- the words that are turned over

-- they hold every check
words-hold : (m i : ℕ) → m ≤ 1023 → i < m → i / 64 < words_for m
unfolding words_for
words-hold m i few h =
    elim (dec_lt 128 m) [ yes many ↦ rw (lt-leb m 128 many) (omega arith) | no small ↦ rw (le-leb m 128 (omega arith)) (omega arith) ]

words-most : (m : ℕ) → words_for m ≤ 16
unfolding words_for
words-most m =
    elim (dec_lt 128 m) [ yes many ↦ rw (lt-leb m 128 many) (omega arith) | no small ↦ rw (le-leb m 128 (omega arith)) (omega arith) ]

-- ---- the set of another word

module _ (H : Matrix) (a : Accepted H) (x : List ℕ) (s : ColumnSets H x) where
  module _ (z c : ℕ → ℕ) (wz : Word H z) (wc : Word H c) (l : List ℕ) (t : ℕ) (d : Places (differing z c) H.n l t) where
    -- the parity of one check
    turned-fails : (i : ℕ) → i < H.m → (fails H z i + sum_below t (λ q. has_row H i (at l q))) % 2 ≡ fails H c i
    unfolding fails differing
    turned-fails i h =
        omega (
          arith,
          fails-differ H z c a.rows wz wc i h,
          row-sum H a.rows i h change,
          places-sum (differing z c) H.n l t d (has_row H i),
          sum-cong H.n turns,
        )
      where
        change : ℕ → ℕ
        change j = unequal (z j) (c j)

        turns : (j : ℕ) → j < H.n → has H i j * change j ≡ change j * has_row H i j
        turns j g = mul_comm (has H i j) (change j) ∙ ap (λ (y : ℕ). change j * y) (sym (row-there H i j h))

    module _ (p p' : List ℕ) (k : SetParities H z p) (e : p' ≡ over (listed (words_for H.m) (word_after x l t p)) p) where
      -- a bit of a word that is turned over
      bit-after : (i : ℕ) → i < 1024 → i / 64 < words_for H.m → bit_in p' 0 i ≡ (bit_in p 0 i + sum_below t (λ q. has_row H i (at l q))) % 2
      unfolding bit_in
      bit-after i h g =
          let word : 0 + i / 64 ≡ i / 64 = omega arith in
          ap (λ (w : ℕ). binary_digit (at p' w) (i % 64)) word
          ∙ ap (λ (y : ℕ). binary_digit y (i % 64)) (over-at (words_for H.m) (word_after x l t p) p p' e 0 (i / 64) g)
          ∙ digit-after x l t p (i / 64) (i % 64)
          ∙ ap₂ (λ (u v : ℕ). (u + v) % 2) (ap (λ (w : ℕ). binary_digit (at p w) (i % 64)) (sym word))
          (sum-cong t (λ q b. s.row (at l q) i (d.below q b) h))

      -- one of a word that is not
      bit_kept : (i : ℕ) → words_for H.m ≤ i / 64 → bit_in p' 0 i ≡ bit_in p 0 i
      unfolding bit_in
      bit_kept i g =
          ap (λ (y : ℕ). binary_digit y (i % 64)) (over-rest (words_for H.m) (word_after x l t p) p p' e 0 (0 + i / 64) (omega arith))

      -- no bit from m on
      past_after : Within H.m p'
      past_after i past h =
          elim (dec_lt (i / 64) (words_for H.m)) [
            | yes g ↦ omega (arith, bit-after i h g, k.past i past h, none)
            | no g ↦ bit_kept i (omega arith) ∙ k.past i past h
          ]
        where
          none : sum_below t (λ q. has_row H i (at l q)) ≡ 0
          none = sum-zero t (λ q b. row-past H i (at l q) past)

      -- the set of the other word
      pub turned-sets : SetParities H c p'
      turned-sets =
          record {
            long = over-long (words_for H.m) (word_after x l t p) p p' e (omega (arith, words-most H.m, k.long)) ∙ k.long;
            each = λ i h.
                bit-after i (omega (arith, a.sizes.m_most)) (words-hold H.m i a.sizes.m_most h)
                ∙ ap (λ (y : ℕ). (y + sum_below t (λ q. has_row H i (at l q))) % 2) (k.each i h)
                ∙ turned-fails i h;
            past = past_after;
          }
