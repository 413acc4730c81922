-- What the set of a word's failing checks tells of the word.
--   set-tallied     == votes and count of a word's set of failing checks are those of the word
-- Assumes nothing.
use mathlib.Core.Path.{◌≡◌, ◌∙◌}
use mathlib.Core.List.{List}
use Prim.Native.Nat.{ℕ}
use Rattle.matrix.specs.Paper.Code.{Matrix}
use Rattle.majority_votes.specs.Tallies.{Tallied}
use Rattle.syndrome_words.specs.Sets.{SetParities, set_failing, SetVotes}
use Rattle.syndrome_words.proofs.Sets.{parities-failing, parities-votes}

-- votes and count are those of the word
pub set-tallied : (H : Matrix) (z : ℕ → ℕ) (p v : List ℕ) (f : ℕ) → SetParities H z p → SetVotes H p v → f ≡ set_failing H p → Tallied H z v f
set-tallied H z p v f s t e =
    record {
      long = t.long;
      each = λ j. t.each j ∙ parities-votes H z p s j;
      count = e ∙ parities-failing H z p s;
    }
