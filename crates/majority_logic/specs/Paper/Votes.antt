-- Votes of the failing checks, and the word after each bit has been voted on. (Document 01, "One-step voting"; document 02, card 2.)
--   votes H z j      == the number of failing checks on bit j
--   flip_when t b    == the bit b, turned over where the test t passes
--   flipped H z j    == bit j after the vote
-- Assumes nothing.
use Rattle.std.specs.Prelude.{ℕ, ◌*◌, ◌-◌, Bool, true, false, ltb}
use Rattle.counting.specs.Paper.Sum.{sum_below}
use Rattle.matrix.specs.Paper.Code.{Matrix, has, weight, fails}

-- the failing checks that have column j
unfoldable pub votes : Matrix → (ℕ → ℕ) → ℕ → ℕ
votes H z j = sum_below H.m (λ i. has H i j * fails H z i)

-- a bit turned over where the test passes
abbrev pub flip_when : Bool → ℕ → ℕ
flip_when true b = 1 - b
flip_when false b = b

-- "A bit is flipped when more than half of its own checks fail" (document 02, card 2), "all at once from the same received word. A tie keeps the bit"
unfoldable pub flipped : Matrix → (ℕ → ℕ) → ℕ → ℕ
flipped H z j = flip_when (ltb (weight H j) (2 * votes H z j)) (z j)
