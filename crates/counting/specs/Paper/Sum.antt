-- Sums of numbers, and tests counted as 0 or 1.
--   sum_below k f  == f 0 + f 1 + .. + f (k - 1)
--   least b k f    == the smallest of b, f 0, f 1, .. f (k - 1)
--   flag t         == 1 where the test t passes, else 0
--   same a b       == 1 where the two numbers are equal, else 0
--   unequal a b    == 1 where they are not, else 0
-- Assumes nothing.
use Rattle.std.specs.Prelude.{ℕ, zero, suc, ◌+◌, min, Bool, true, false, not, eqb}

-- the sum of the first k values of f
unfoldable pub sum_below : ℕ → (ℕ → ℕ) → ℕ
sum_below zero f = 0
sum_below (suc k) f = sum_below k f + f k

-- the smallest of b and the first k values of f
unfoldable pub least : ℕ → ℕ → (ℕ → ℕ) → ℕ
least b zero f = b
least b (suc k) f = min (least b k f) (f k)

-- a test as a number
abbrev pub flag : Bool → ℕ
flag true = 1
flag false = 0

-- whether two numbers are equal, as a number
unfoldable pub same : ℕ → ℕ → ℕ
same a b = flag (eqb a b)

-- whether two numbers are not equal, as a number
unfoldable pub unequal : ℕ → ℕ → ℕ
unequal a b = flag (not (eqb a b))
