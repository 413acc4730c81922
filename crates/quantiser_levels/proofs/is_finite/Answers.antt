-- `quantiser_levels::is_finite` meets its contract: a float between the two infinities is finite. Assumes nothing.
use mathlib.Core.Path.{◌∙◌}
use lib.Ieee.{of_bits, neg, nan_bits}
use Rattle.quantiser_levels.proofs.Floats.{both-tests, first-test}
use Rattle.quantiser_levels.proofs.is_finite.Goals as goal

pub float_from_bits-top : goal.float_from_bits-top
unfolding nan_bits
float_from_bits-top c = tt

pub returns-then-top-x : goal.returns-then-top-x
unfolding of_bits neg
returns-then-top-x c = both-tests c.args.x c.if-top-x.true

pub returns-else-top-x : goal.returns-else-top-x
unfolding of_bits neg
returns-else-top-x c = c.if-top-x.false ∙ first-test c.args.x c.if-top-x.false
