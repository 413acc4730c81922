-- `program_ends::at_blocks` meets its contract. Assumes nothing.
use mathlib.Core.Path.{refl, ap}
use Prim.Native.Nat.{ℕ, ◌*◌}
use Rattle.program_ends.proofs.at_blocks.Goals as goal

pub returns : goal.returns
returns c =
    let n = c.args.shape.n in
    ((λ l. refl), ap (λ (k : ℕ). k * (4 * n)) c.at_once.ensures.count, refl)
