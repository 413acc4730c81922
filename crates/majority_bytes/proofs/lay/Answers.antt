use native.Mathlib.Omega.{arith}
use Rattle.majority_bytes.proofs.Bytes.{laid-all}
use Rattle.majority_bytes.proofs.lay.Goals as goal

pub returns : goal.returns
returns c =
    let o = c.loop-q in
    let w = c.widen in
    laid-all c.args.planes.now w.new.sums o.bytes o.invariant.0 w.ensures.1 (λ j h. o.invariant.1 j (omega arith))
