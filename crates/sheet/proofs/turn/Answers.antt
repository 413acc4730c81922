-- `sheet::turn` meets its contract: the remainder is the sum itself, or z less. Assumes nothing.
use Prim.Native.Nat.{◌+◌}
use native.Mathlib.Omega.{arith}
use Rattle.counting.proofs.Residues.{wrap-low, wrap-high}
use Rattle.sheet.proofs.turn.Goals as goal

pub returns-then-shift-left : goal.returns-then-shift-left
returns-then-shift-left c =
    let a = c.args in
    omega (arith, wrap-low a.z (a.i + a.shift) (omega arith))

pub returns : goal.returns
returns c =
    let a = c.args in
    omega (arith, wrap-high a.z (a.i + a.shift) (omega arith) (omega arith))
