-- `program_turns::at_once` meets its contract: the least of three numbers. Assumes nothing.
use mathlib.Core.Path.{ap, sym, ◌∙◌, subst}
use Prim.Native.Nat.{ℕ, min, ◌-◌}
use native.Mathlib.Omega.{arith}
use Rattle.program_turns.specs.Turns.{AtOnce}
use Rattle.program_turns.proofs.Turns.{at-once}
use Rattle.program_turns.proofs.at_once.Goals as goal

pub returns : goal.returns
returns c =
    let n = c.args.n in
    let i = c.args.number in
    let e = c.min-2.ensures ∙ ap (λ (k : ℕ). min k (65535 - i)) c.min.ensures in
    subst (AtOnce n i) (sym e) (at-once n i c.requires.0 c.requires.1 (omega arith))
