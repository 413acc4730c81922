-- Sets of checks that are turned over.
--   word_after x l t p w   == word w of the set p, turned over by that word of each column that the first t of l are
--   words_for m            == how many words are turned over for m checks
--   ColumnAt x j           == x has the sixteen words of column j, which is one of at most 1,023
-- Assumes nothing.
use Rattle.std.specs.Prelude.{cond, List, ℕ, zero, suc, ◌+◌, ◌*◌, ◌<◌, ◌≤◌, leb, length}
use Rattle.std.specs.Int.Bits.{bit_xor}
use Rattle.counting.specs.Places.{at}

unfoldable pub word_after : List ℕ → List ℕ → ℕ → List ℕ → ℕ → ℕ
word_after x l zero p w = at p w
word_after x l (suc t) p w = bit_xor (word_after x l t p w) (at x (16 * at l t + w))

unfoldable pub words_for : ℕ → ℕ
words_for m = cond (leb m 128) 2 16

pub record ColumnAt (x : List ℕ) (j : ℕ) : Type 0 where
  pub few : j < 1023
  pub room : 16 * j + 16 ≤ length x
