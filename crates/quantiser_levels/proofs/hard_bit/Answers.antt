-- `quantiser_levels::hard_bit` meets its contract: the code's test is the definition's. Assumes nothing.
use mathlib.Core.Path.{sym, ap}
use mathlib.Core.Bool.{Bool, cond}
use lib.Ieee.{of_bits}
use Rattle.quantiser_levels.specs.Paper.Samples.{hard_of}
use Rattle.quantiser_levels.proofs.hard_bit.Goals as goal

pub returns-then-x : goal.returns-then-x
unfolding of_bits hard_of
returns-then-x c = sym (ap (λ (b : Bool). cond b 1 0) c.if-x.true)

pub returns-else-x : goal.returns-else-x
unfolding of_bits hard_of
returns-else-x c = sym (ap (λ (b : Bool). cond b 1 0) c.if-x.false)
