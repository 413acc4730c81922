-- `sheet_blocks::whole_blocks` meets its contract. Assumes nothing.
use native.Mathlib.Omega.{arith}
use Rattle.sheet_blocks.proofs.Blocks.{no_says, filled-says}
use Rattle.sheet_blocks.proofs.whole_blocks.Goals as goal

pub returns-then-z-eq0 : goal.returns-then-z-eq0
returns-then-z-eq0 c = no_says (λ f. omega (arith, f.some))

pub returns : goal.returns
returns c =
    let a = c.args in
    filled-says a.n a.m a.z (omega arith)
