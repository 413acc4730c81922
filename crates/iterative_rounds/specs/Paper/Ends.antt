-- The list of iterative voting round by round, and what is promised of its end.
--   state_at H L s k    == the state after k rounds
--   EndsAt              == what is known of the k and the state with which the list ends
--   Promised            == what is known of an answer's outcome, rounds and failing checks
-- proofs/Ends.antt has that of the end, proofs/Answers.antt of `iterative` that of an answer. Assumes nothing.
use Rattle.std.specs.Prelude.{◌≡◌, ◌⊎◌, ℕ, zero, suc, ◌≤◌, ◌<◌}
use Rattle.matrix.specs.Paper.Code.{Matrix, failing}
use Rattle.iterative_rounds.specs.Paper.Rounds.{State, round_of, End}

-- the k-th iterate of a round
unfoldable pub state_at : Matrix → ℕ → State → ℕ → State
state_at H L s zero = s
state_at H L s (suc k) = round_of H L (state_at H L s k)

-- e is where the list ends that starts with the state s
pub record EndsAt (H : Matrix) (L limit : ℕ) (s : State) (e : End) : Type 0 where
  pub within : e.k ≤ limit
  pub state_is : e.last ≡ state_at H L s e.k
  pub earlier : (t : ℕ) → t < e.k → 0 < failing H (state_at H L s t).z
  pub failed : 0 < failing H e.last.z → e.k ≡ limit

-- an answer: decoded (0) only with no failing check, failed (1) only with the rounds at the limit and a failing check
pub record Promised (limit outcome rounds failing : ℕ) : Type 0 where
  pub ended : (outcome ≡ 0) ⊎ (outcome ≡ 1)
  pub within : rounds ≤ limit
  pub decoded : outcome ≡ 0 → failing ≡ 0
  pub failed : outcome ≡ 1 → (rounds ≡ limit) × (0 < failing)
