use Prim.Native.Nat.{◌+◌}
use native.Mathlib.Omega.{arith}
use Rattle.counting.specs.Places.{at}
use Rattle.majority_columns.proofs.Columns.{ones_none, ones_step, ones-most}
use Rattle.majority_columns.proofs.odd_rows.Goals as goal

pub loop-k-init : goal.loop-k-init
loop-k-init c = ones_none _ _ _

pub overflow_add-v : goal.overflow_add-v
overflow_add-v c =
    let s = c in
    let o = c.loop-k in
    let a = s.args in
    omega (
      arith,
      o.invariant,
      ones-most a.index.now a.from o.k a.parity.now s.requires.2,
      s.requires.2.bit (at a.index.now (a.from + o.k)),
    )

pub loop-k-preserved : goal.loop-k-preserved
loop-k-preserved c =
    let a = c.args in
    let o = c.loop-k in
    ones_step a.index.now a.from o.k o.v (at a.parity.now) o.invariant
