-- Sums of whole numbers, and whole numbers cut to a range.
--   sumℤ k f         == f 0 + f 1 + .. + f (k - 1)
--   cut L x          == x, or -L or L where x lies beyond
--   above_zero x     == 1 where x is above 0, else 0
-- Assumes nothing.
use Rattle.std.specs.Prelude.{ℕ, zero, suc, min, ℤ, pos, negsuc, neg_ℤ, ◌+ℤ◌}

-- the sum of the first k values of f
unfoldable pub sumℤ : ℕ → (ℕ → ℤ) → ℤ
sumℤ zero f = pos 0
sumℤ (suc k) f = sumℤ k f +ℤ f k

-- "cut to −L or L when beyond"
abbrev pub cut : ℕ → ℤ → ℤ
cut L (pos k) = pos (min k L)
cut L (negsuc k) = neg_ℤ (pos (min (suc k) L))

-- whether a whole number is above 0, as a number
abbrev pub above_zero : ℤ → ℕ
above_zero (pos zero) = 0
above_zero (pos (suc k)) = 1
above_zero (negsuc k) = 0
