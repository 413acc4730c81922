-- `byte_numbers::finite_pattern` meets its contract. Assumes nothing.
use mathlib.Core.Path.{sym}
use Rattle.byte_numbers.proofs.Patterns.{finite-pattern}
use Rattle.byte_numbers.proofs.finite_pattern.Goals as goal

pub returns : goal.returns
returns c = sym (finite-pattern c.args.p)
