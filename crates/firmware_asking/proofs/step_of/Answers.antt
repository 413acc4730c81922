-- `firmware_asking::step_of` meets its contract: a pattern that is not finite never becomes a float. Assumes nothing.
use mathlib.Core.Path.{sym, ◌∙◌}
use Rattle.byte_numbers.proofs.Patterns.{no_nan}
use Rattle.firmware_asking.proofs.step_of.Goals as goal

pub float_from_bits-result : goal.float_from_bits-result
float_from_bits-result c = no_nan c.args.p (sym c.finite_pattern.ensures ∙ c.if-finite_pattern.true)
