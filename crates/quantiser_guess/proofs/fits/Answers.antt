-- `quantiser_guess::fits` meets its contract: the code's two tests are the definition's. Assumes nothing.
use mathlib.Core.Path.{refl}
use Rattle.quantiser_guess.specs.Guess.{fits_at}
use Rattle.quantiser_guess.proofs.fits.Goals as goal

pub returns : goal.returns
unfolding fits_at
returns c = refl
