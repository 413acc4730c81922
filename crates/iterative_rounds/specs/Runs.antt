-- What the arrays of a running decoder hold.
--   state_of L z x        == the state that the bits z and the levels x stand for
--   Holds n L z x s      == they stand for the state s below n
--   RunLent H L z x      == what a round asks: an accepted matrix, bits, and levels in their range
--   Rounded              == what a round leaves: the next bits and levels, their votes and their failing checks
--   Stopped H L e ..     == the arrays hold the state of the end e, with its rounds and its failing checks
--   RunLeft              == what the rounds from the arrays' state on leave; the cells past the bits stay
-- Levels are kept as in specs/Levels.antt of `iterative_levels`. Assumes nothing.
use Rattle.std.specs.Prelude.{◌≡◌, List, ℕ, ◌*◌, ◌≤◌, ◌<◌, nat_abs, length}
use Rattle.counting.specs.Places.{at}
use Rattle.matrix.specs.Paper.Code.{Matrix, Word, weight, failing}
use Rattle.matrix.specs.Paper.PlainCheck.{Accepted}
use Rattle.majority_votes.specs.Tallies.{Tallied}
use Rattle.iterative_rounds.specs.Paper.Rounds.{State, state, End, end_of}
use Rattle.iterative_levels.specs.Levels.{biased, unbiased, Moved}
use Rattle.quantiser_levels.specs.Paper.Samples.{most_level}

unfoldable pub state_of : ℕ → List ℕ → List ℕ → State
state_of L z x = state (at z) (unbiased L x)

pub record Holds (n L : ℕ) (z x : List ℕ) (s : State) : Type 0 where
  pub long_word : length z ≡ 1023
  pub long_levels : length x ≡ 1023
  pub word : (j : ℕ) → j < n → at z j ≡ s.z j
  pub bit : (j : ℕ) → j < n → s.z j < 2
  pub levels : (j : ℕ) → j < n → at x j ≡ biased L (s.R j)
  pub within : (j : ℕ) → j < n → nat_abs (s.R j) ≤ L

pub record RunLent (H : Matrix) (L : ℕ) (z x : List ℕ) : Type 0 where
  pub matrix : Accepted H
  pub largest : L ≤ most_level
  pub long_word : length z ≡ 1023
  pub long_levels : length x ≡ 1023
  pub word : Word H (at z)
  pub within : (j : ℕ) → j < H.n → at x j ≤ 2 * L

-- bits z and levels x by the votes v, then the votes become those of the new bits, f of whose checks fail
pub record Rounded (H : Matrix) (L : ℕ) (v z x z' x' v' : List ℕ) (f : ℕ) : Type 0 where
  pub moved : Moved v (weight H) H.n L (2 * L) z x z' x'
  pub tallied : Tallied H (at z') v' f

-- the arrays hold the state at the end e, k and f are its rounds and its failing checks
pub record Stopped (H : Matrix) (L : ℕ) (e : End) (z x : List ℕ) (k f : ℕ) : Type 0 where
  pub holds : Holds H.n L z x e.last
  pub rounds : k ≡ e.k
  pub fails : f ≡ failing H e.last.z

-- bits z and levels x become z' and x' in k rounds, after which f checks fail
pub record RunLeft (H : Matrix) (L limit : ℕ) (z x z' x' : List ℕ) (k f : ℕ) : Type 0 where
  pub stopped : Stopped H L (end_of H L 0 limit (state_of L z x)) z' x' k f
  pub rest_word : (j : ℕ) → H.n ≤ j → at z' j ≡ at z j
  pub rest_levels : (j : ℕ) → H.n ≤ j → at x' j ≡ at x j
