-- States and ends that agree at the places of the code.
--   Alike n s t        == two states that agree below n
--   AlikeEnds n e e'   == two ends with the same k and states that agree below n
-- Assumes nothing.
use Rattle.std.specs.Prelude.{◌≡◌, ℕ, ◌<◌}
use Rattle.iterative_rounds.specs.Paper.Rounds.{State, End}

pub record Alike (n : ℕ) (s t : State) : Type 0 where
  pub word : (j : ℕ) → j < n → s.z j ≡ t.z j
  pub levels : (j : ℕ) → j < n → s.R j ≡ t.R j

pub record AlikeEnds (n : ℕ) (e e' : End) : Type 0 where
  pub rounds : e.k ≡ e'.k
  pub last : Alike n e.last e'.last
