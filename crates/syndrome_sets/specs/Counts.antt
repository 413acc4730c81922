-- Sets of checks compared bit by bit.
--   word_apart x y          == in how many of their 64 bits two words differ
--   sets_apart words a b    == in how many bits of their first words two sets differ
-- Assumes nothing.
use Rattle.std.specs.Prelude.{List, ℕ, ◌*◌}
use Rattle.counting.specs.Digits.{binary_digit}
use Rattle.counting.specs.Paper.Sum.{sum_below, unequal}
use Rattle.syndrome_words.specs.Sets.{bit_in}

unfoldable pub word_apart : ℕ → ℕ → ℕ
word_apart x y = sum_below 64 (λ k. unequal (binary_digit x k) (binary_digit y k))

unfoldable pub sets_apart : ℕ → List ℕ → List ℕ → ℕ
sets_apart words a b = sum_below (words * 64) (λ i. unequal (bit_in a 0 i) (bit_in b 0 i))
