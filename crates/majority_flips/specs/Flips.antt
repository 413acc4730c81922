-- What the vote does to the bits. (Document 01, "One-step voting".)
--   VotedBits n w v old new   == the first n bits after the vote by v, bit j being in w j checks
-- Assumes nothing.
use Rattle.std.specs.Prelude.{◌≡◌, List, ℕ, ◌*◌, ◌<◌, ◌≤◌, ltb, length}
use Rattle.counting.specs.Places.{at}
use Rattle.majority_logic.specs.Paper.Votes.{flip_when}

-- a bit is flipped when more than half of its own checks fail; the cells beyond stay
pub record VotedBits (n : ℕ) (w : ℕ → ℕ) (v old new : List ℕ) : Type 0 where
  pub long : length new ≡ 1023
  pub each : (j : ℕ) → j < n → at new j ≡ flip_when (ltb (w j) (2 * at v j)) (at old j)
  pub rest : (j : ℕ) → n ≤ j → at new j ≡ at old j
