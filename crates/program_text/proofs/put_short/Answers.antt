-- `program_text::put_short` meets its contract. Assumes nothing.
use native.Mathlib.Omega.{arith}
use Rattle.program_text.specs.Paper.Output.{line, short_text}
use Rattle.program_text.proofs.put_short.Goals as goal

pub returns : goal.returns
unfolding short_text line
returns c = record { put = c.put_text.ensures; within = omega (arith, c.put_text.ensures.ends) }
