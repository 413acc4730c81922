-- `quantiser_levels::capped` meets its contract: the code is the definition of `nearest_whole`, cut at the top. Assumes nothing.
use native.Mathlib.Omega.{arith}
use Rattle.quantiser_levels.specs.Paper.Samples.{nearest_whole}
use Rattle.quantiser_levels.proofs.capped.Goals as goal

pub returns : goal.returns
unfolding nearest_whole
returns c = omega arith
