-- A law of the flips.
--   voted-same   == what is voted goes by each bit's number of checks only
-- Assumes nothing.
use mathlib.Core.Path.{◌≡◌, ap, ◌∙◌}
use mathlib.Core.List.{List}
use Prim.Native.Nat.{ℕ, ◌*◌, ◌<◌}
use lib.Dec.{ltb}
use Rattle.counting.specs.Places.{at}
use Rattle.majority_logic.specs.Paper.Votes.{flip_when}
use Rattle.majority_flips.specs.Flips.{VotedBits}

-- what is voted goes by each bit's number of checks only
pub voted-same : (n : ℕ) (w u : ℕ → ℕ) (v old new : List ℕ) → ((j : ℕ) → j < n → w j ≡ u j) → VotedBits n w v old new → VotedBits n u v old new
voted-same n w u v old new e t =
    record { long = t.long; each = λ j l. t.each j l ∙ ap (λ (k : ℕ). flip_when (ltb k (2 * at v j)) (at old j)) (e j l); rest = t.rest }
