-- `program_text::put_heading` meets its contract. Assumes nothing.
use native.Mathlib.Omega.{arith}
use Rattle.program_text.specs.Paper.Output.{heading}
use Rattle.program_text.proofs.put_heading.Goals as goal

pub returns : goal.returns
unfolding heading
returns c = record { put = c.put_text.ensures; within = omega (arith, c.put_text.ensures.ends) }
