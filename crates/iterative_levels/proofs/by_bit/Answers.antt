-- `iterative_levels::by_bit` meets its contract: the test is the definition's. Assumes nothing.
use native.Mathlib.Omega.{arith}
use borrow.Author.Tests.{eq-eqb, ne_eqb}
use Rattle.iterative_levels.proofs.by_bit.Goals as goal

pub returns-then-z-eq0 : goal.returns-then-z-eq0
returns-then-z-eq0 c = simp (eq-eqb c.args.z 0 (omega arith))

pub returns-else-z-eq0 : goal.returns-else-z-eq0
returns-else-z-eq0 c = simp (ne_eqb c.args.z 0 (λ e. omega arith))
