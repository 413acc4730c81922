-- Arrays of votes that are kept from one word to the next.
--   no_votes j      == the votes on bit j where there are none
--   VotesOf n v     == v is an array of votes of which none is for a bit from n on
-- Assumes nothing.
use Rattle.std.specs.Prelude.{◌≡◌, List, ℕ, ◌≤◌, length}
use Rattle.counting.specs.Places.{at}

unfoldable pub no_votes : ℕ → ℕ
no_votes j = 0

-- n bits are voted on
pub record VotesOf (n : ℕ) (v : List ℕ) : Type 0 where
  pub long : length v ≡ 1023
  pub past : (j : ℕ) → n ≤ j → at v j ≡ 0
