-- Rounds of iterative soft voting. (Document 01, "Iterative voting"; document 02, card 2.)
--   others H z i j        == the ones of check i among its bits other than bit j
--   sign p                == +1 where the parity p is odd, else -1
--   extrinsic H z j       == E, the sum over bit j's checks
--   State                 == the word z and the stored levels R
--   level_after H L s j   == step 5: the level of bit j after a round
--   round_of H L s        == steps 4 to 6
--   End                   == a k and a state
--   end_of H L k left s   == k and the state with which the list ends, from round k, with `left` rounds to go
-- Assumes nothing.
use Rattle.std.specs.Prelude.{ℕ, zero, suc, ◌*◌, ◌%◌, Bool, true, false, eqb, ℤ, pos, negsuc, ◌+ℤ◌, ◌*ℤ◌}
use Rattle.counting.specs.Paper.Sum.{sum_below, unequal}
use Rattle.counting.specs.Paper.Integers.{sumℤ, cut, above_zero}
use Rattle.matrix.specs.Paper.Code.{Matrix, entry, has, failing}

-- "the other bits of that check": the ones among them
unfoldable pub others : Matrix → (ℕ → ℕ) → ℕ → ℕ → ℕ
others H z i j = sum_below H.rho (λ k. unequal (entry H i k) j * z (entry H i k))

-- "+1 if the other bits of that check have an odd number of ones, else −1"
abbrev pub sign : ℕ → ℤ
sign zero = negsuc 0
sign (suc k) = pos 1

-- "E sums over its own checks" (document 02, card 2)
unfoldable pub extrinsic : Matrix → (ℕ → ℕ) → ℕ → ℤ
extrinsic H z j = sumℤ H.m (λ i. pos (has H i j) *ℤ sign (others H z i j % 2))

-- "z is the word, R the stored level of each bit"
pub record State : Type 0 where
  pub z : ℕ → ℕ
  pub R : ℕ → ℤ

abbrev pub state : (ℕ → ℕ) → (ℕ → ℤ) → State
state z R = record { z = z; R = R }

-- "R becomes R + E, cut to −L or L when beyond; all bits use the same z"
unfoldable pub level_after : Matrix → ℕ → State → ℕ → ℤ
level_after H L s j = cut L (s.R j +ℤ extrinsic H s.z j)

-- "z is 1 exactly where R is above 0"
unfoldable pub round_of : Matrix → ℕ → State → State
round_of H L s = state (λ j. above_zero (level_after H L s j)) (level_after H L s)

-- the k and the state with which the list ends
pub record End : Type 0 where
  pub k : ℕ
  pub last : State

-- steps 2 and 3, then 4 to 6 and again: `left` is the round limit less k
unfoldable pub end_of : Matrix → ℕ → ℕ → ℕ → State → End
end_of H L k zero s = record { k = k; last = s }
end_of H L k (suc left) s = ended (eqb (failing H s.z) 0) (end_of H L (suc k) left (round_of H L s))
  where
    ended : Bool → End → End
    ended true e = record { k = k; last = s }
    ended false e = e
