use Prim.Native.Nat.{◌+◌, ◌-◌}
use native.Mathlib.Omega.{arith}
use Rattle.syndrome.proofs.Parity.{part-at}
use Rattle.syndrome_update.proofs.Turns.{checks-none, checks-step}
use Rattle.syndrome_update.proofs.turn_checks.Goals as goal

pub loop-i-init : goal.loop-i-init
loop-i-init c = checks-none c.args.parity.now c.requires.1 c.args.index.now c.args.from

pub loop-i-preserved : goal.loop-i-preserved
loop-i-preserved c =
    let a = c.args in
    let o = c.loop-i in
    let k = o.i-index in
    let e = part-at a.index.now a.from (a.from + a.count - a.from) k (omega arith) in
    rw e (checks-step a.parity.now c.requires.1 a.index.now a.from k o.parity (c.requires.0.below k (omega arith)) o.invariant)
