-- Words that agree below n vote alike: every definition reads the bits of the code alone.
--   votes-cong         == each column has the same votes
--   flipped-cong       == each bit is flipped alike
--   step_rounds-cong   == there are as many rounds
--   step_word-cong     == the words after the vote agree below n
-- Assumes nothing.
use mathlib.Core.Path.{◌≡◌}
use Prim.Native.Nat.{ℕ, ◌<◌}
use Rattle.counting.proofs.Sums.{sum-cong}
use Rattle.matrix.specs.Paper.Code.{Matrix}
use Rattle.matrix.specs.Paper.PlainCheck.{Rows}
use Rattle.matrix.proofs.Rows.{fails-cong, failing-cong}
use Rattle.majority_logic.specs.Paper.Votes.{votes, flipped}
use Rattle.majority_logic.specs.Paper.OneStep.{step_word, step_rounds}
use Rattle.majority_logic.proofs.Correction.{step_word-flipped}

module _ (H : Matrix) (r : Rows H) (z c : ℕ → ℕ) (agree : (j : ℕ) → j < H.n → z j ≡ c j) where
  -- each column has the same votes
  pub votes-cong : (j : ℕ) → votes H z j ≡ votes H c j
  unfolding votes
  votes-cong j = sum-cong H.m (λ i h. cc (fails-cong H r z c agree i h))

  -- each bit is flipped alike
  pub flipped-cong : (j : ℕ) → j < H.n → flipped H z j ≡ flipped H c j
  unfolding flipped
  flipped-cong j h = cc (votes-cong j, agree j h)

  -- there are as many rounds
  pub step_rounds-cong : step_rounds H z ≡ step_rounds H c
  unfolding step_rounds
  step_rounds-cong = cc (failing-cong H r z c agree)

  -- the words after the vote agree below n
  pub step_word-cong : (j : ℕ) → j < H.n → step_word H z j ≡ step_word H c j
  step_word-cong j h = rw (step_word-flipped H z, step_word-flipped H c) (flipped-cong j h)
