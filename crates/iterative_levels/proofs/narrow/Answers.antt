use native.Mathlib.Omega.{arith}
use Rattle.iterative_levels.proofs.narrow.Goals as goal

pub overflow_cast-kept : goal.overflow_cast-kept
overflow_cast-kept c =
    let l = c in
    omega (arith, l.requires.0.small l.loop-j.j (omega arith))
