-- Sets that are turned over, word by word and column by column.
--   column-step     == one word more is turned over
--   listed-none     == where no column is listed the set stays
--   listed-step     == one column more
--   column-at       == the words of a column below n stand in the columns of a matrix
--   two-turned, all-turned   == two words are turned over for at most 128 checks, sixteen for more
-- Assumes nothing.
use mathlib.Core.Path.{◌≡◌, refl, sym, ap, ◌∙◌}
use mathlib.Core.List.{List}
use Prim.Native.Nat.{ℕ, ◌+◌, ◌*◌, ◌<◌, ◌≤◌}
use native.Mathlib.Decide.{dec_lt}
use native.Mathlib.Numerals.{add-one}
use native.Mathlib.Omega.{arith}
use lib.Bits.{bit_xor}
use lib.ListN.{length, set}
use lib.Seq.{ext_get_or}
use Rattle.counting.specs.Paper.Lists.{listed, over}
use Rattle.counting.specs.Places.{at}
use Rattle.counting.proofs.Writes.{length-listed, listed-cong, over-step, over-long, over-at, over-rest, over-over}
use Rattle.syndrome_sets.specs.Turns.{word_after, words_for, ColumnAt}
use borrow.Author.Tests.{le-leb, lt-leb}

-- one word more of a column
pub column-step : (x p₀ p : List ℕ) (from w : ℕ) → w < length p₀ → p ≡ over (listed w (λ v. bit_xor (at p₀ v) (at x (from + v)))) p₀
    → set p w (bit_xor (at p w) (at x (from + w))) ≡ over (listed (w + 1) (λ v. bit_xor (at p₀ v) (at x (from + v)))) p₀
column-step x p₀ p from w h e =
    over-step w (λ v. bit_xor (at p₀ v) (at x (from + v))) p₀ p e (bit_xor (at p w) (at x (from + w))) h
    (ap (λ (y : ℕ). bit_xor y (at x (from + w))) (over-rest w (λ v. bit_xor (at p₀ v) (at x (from + v))) p₀ p e 0 w (omega arith)))

-- ---- listed columns

-- a set with its own words written over it
over-own : (words : ℕ) (p : List ℕ) → words ≤ length p → p ≡ over (listed words (at p)) p
over-own words p h =
    ext_get_or 0 p (over (listed words (at p)) p) (sym (over-long words (at p) p (over (listed words (at p)) p) refl h)) (λ i l. same i)
  where
    same : (i : ℕ) → at p i ≡ at (over (listed words (at p)) p) i
    same i =
        elim (dec_lt i words) [
          | yes below ↦ sym (over-at words (at p) p (over (listed words (at p)) p) refl 0 i below)
          | no past ↦ sym (over-rest words (at p) p (over (listed words (at p)) p) refl 0 i (omega arith))
        ]

-- no column
pub listed-none : (x l : List ℕ) (words : ℕ) (p : List ℕ) → words ≤ length p → p ≡ over (listed words (word_after x l 0 p)) p
unfolding word_after
listed-none x l words p h = over-own words p h

-- one column more
next-column : (x l : List ℕ) (words q : ℕ) (p₀ p p' : List ℕ) → p ≡ over (listed words (word_after x l q p₀)) p₀
    → p' ≡ over (listed words (λ w. bit_xor (at p w) (at x (16 * at l q + w)))) p → p' ≡ over (listed words (word_after x l (q + 1) p₀)) p₀
unfolding word_after
next-column x l words q p₀ p p' e e' =
    e'
    ∙ ap (λ (y : List ℕ). over y p) (listed-cong words (λ w. bit_xor (at p w) (at x (16 * at l q + w))) (word_after x l (q + 1) p₀) turned)
    ∙ ap (λ (y : List ℕ). over (listed words (word_after x l (q + 1) p₀)) y) e
    ∙ over-over (listed words (word_after x l (q + 1) p₀)) (listed words (word_after x l q p₀)) p₀ long
  where
    turned : (w : ℕ) → w < words → bit_xor (at p w) (at x (16 * at l q + w)) ≡ word_after x l (q + 1) p₀ w
    turned w h = rw (add-one q) (ap (λ (y : ℕ). bit_xor y (at x (16 * at l q + w))) (over-at words (word_after x l q p₀) p₀ p e 0 w h))

    long : length (listed words (word_after x l (q + 1) p₀)) ≡ length (listed words (word_after x l q p₀))
    long = length-listed words (word_after x l (q + 1) p₀) ∙ sym (length-listed words (word_after x l q p₀))

-- the same by the column's number as it is read
pub listed-step : (x l : List ℕ) (words q : ℕ) (p₀ p p' : List ℕ) (j : ℕ) → j ≡ at l q → p ≡ over (listed words (word_after x l q p₀)) p₀
    → p' ≡ over (listed words (λ w. bit_xor (at p w) (at x (16 * j + w)))) p → p' ≡ over (listed words (word_after x l (q + 1) p₀)) p₀
listed-step x l words q p₀ p p' j here e e' = next-column x l words q p₀ p p' e (rw here at e')

-- ---- as many words as the checks need

-- the words of a column below n
pub column-at : (x : List ℕ) (n j : ℕ) → n ≤ 1023 → 17 * n ≤ length x → j < n → ColumnAt x j
column-at x n j few room h = record { few = omega arith; room = omega arith }

-- two words, and all sixteen
pub two-turned : (x l : List ℕ) (t m : ℕ) (p p' : List ℕ) → m ≤ 128 → p' ≡ over (listed 2 (word_after x l t p)) p
    → p' ≡ over (listed (words_for m) (word_after x l t p)) p
unfolding words_for
two-turned x l t m p p' h e = rw (le-leb m 128 h) e

pub all-turned : (x l : List ℕ) (t m : ℕ) (p p' : List ℕ) → 128 < m → p' ≡ over (listed 16 (word_after x l t p)) p
    → p' ≡ over (listed (words_for m) (word_after x l t p)) p
unfolding words_for
all-turned x l t m p p' h e = rw (lt-leb m 128 h) e
