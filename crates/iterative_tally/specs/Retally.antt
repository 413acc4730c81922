-- The votes of a word that follows another one.
--   RenewedBy H a z l l' p p'   == the parities p of the word a become p', those of z; l becomes l', the places at which the words differ
--   Retallied H z p p' v f   == p becomes p', the parities of the word z; v are the votes and f the failing checks of z
-- Assumes nothing.
use Rattle.std.specs.Prelude.{ℕ, List}
use Rattle.matrix.specs.Paper.Code.{Matrix}
use Rattle.syndrome_update.specs.Parities.{differing, FlipsListed, Renewed}
use Rattle.majority_votes.specs.Tallies.{Tallied}

pub record RenewedBy (H : Matrix) (a z : ℕ → ℕ) (l l' p p' : List ℕ) : Type 0 where
  pub renewed : Renewed H z p p'
  pub flips : ℕ
  pub listed : FlipsListed (differing a z) H.n l l' flips

pub record Retallied (H : Matrix) (z : ℕ → ℕ) (p p' v : List ℕ) (f : ℕ) : Type 0 where
  pub renewed : Renewed H z p p'
  pub tallied : Tallied H z v f
