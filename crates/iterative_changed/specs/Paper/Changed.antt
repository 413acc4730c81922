-- "changed": the places that count, and at how many of them two words differ. (Document 01, "An answer holds"; document 02, card 6.)
--   decided r              == whether a level is other than 0
--   decided_in R j         == whether place j is decided by the levels R
--   level_at o j           == the level at place j of a list of levels
--   changed n counts z r   == how many of the places below n that count differ in the words z and r
-- Assumes nothing.
use Rattle.std.specs.Prelude.{ℕ, Bool, not, cond, List, eqb, ℤ, pos, nat_abs, get_or}
use Rattle.counting.specs.Paper.Sum.{sum_below, unequal}

-- "a level other than 0"
unfoldable pub decided : ℤ → Bool
decided r = not (eqb (nat_abs r) 0)

-- "only bits with a level are counted": those places count where samples were lent, R being the levels at opening
abbrev pub decided_in : (ℕ → ℤ) → ℕ → Bool
decided_in R j = decided (R j)

-- a list of levels by its places: a step is lent the opening's levels as a list
abbrev pub level_at : List ℤ → ℕ → ℤ
level_at o j = get_or o j (pos 0)

-- "the number of positions .. whose bit ends different", of those that count
unfoldable pub changed : ℕ → (ℕ → Bool) → (ℕ → ℕ) → (ℕ → ℕ) → ℕ
changed n counts z r = sum_below n (λ j. cond (counts j) (unequal (z j) (r j)) 0)
