use native.Mathlib.Omega.{arith}
use Rattle.iterative_levels.proofs.unbias.Goals as goal

pub unbias_one-requires : goal.unbias_one-requires
unbias_one-requires c =
    let l = c in
    let p = l.requires in
    (p.largest, p.within l.loop-j.j (omega arith))
