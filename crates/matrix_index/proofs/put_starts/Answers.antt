use Prim.Native.Nat.{◌<◌}
use mathlib.Core.Path.{◌≡◌, sym}
use native.Mathlib.Omega.{arith}
use lib.ListN.{length, take}
use Rattle.std.proofs.lemmas.List.{length-take, length-take-le, get_or-take}
use Rattle.counting.proofs.Writes.{over_none, over-step}
use Rattle.matrix_index.specs.Filling.{start_sum}
use Rattle.matrix_index.proofs.Starts.{sum_first, sum_more, sum_fits}
use Rattle.matrix_index.proofs.put_starts.Goals as goal

pub loop-j-init : goal.loop-j-init
loop-j-init c = (sum_first _, sym (over_none _ _))

pub overflow_add-sum : goal.overflow_add-sum
overflow_add-sum c =
    let s = c in
    let o = c.loop-j in
    let l : o.j < s.args.n = omega (arith, length-take s.args.n s.args.weights.now) in
    omega (arith, s.requires.2, o.invariant.0, sum_fits s.args.weights.now o.j s.args.n l, get_or-take s.args.n s.args.weights.now o.j 0 l)

pub loop-j-preserved : goal.loop-j-preserved
loop-j-preserved c =
    let s = c in
    let o = c.loop-j in
    let l : o.j < s.args.n = omega (arith, length-take s.args.n s.args.weights.now) in (
      omega (arith, o.invariant.0, sum_more s.args.weights.now o.j, get_or-take s.args.n s.args.weights.now o.j 0 l),
      over-step o.j (start_sum s.args.weights.now) s.args.cells.now o.cells o.invariant.1 o.sum (omega arith) o.invariant.0,
    )

pub returns : goal.returns
returns c =
    let s = c in
    let o = c.loop-j in
    let here : length (take s.args.n s.args.weights.now) ≡ s.args.n = length-take-le s.args.n s.args.weights.now (omega (arith, c.told-weights)) in
    let done : o.j ≡ s.args.n = omega (arith, here) in
    over-step s.args.n (start_sum s.args.weights.now) s.args.cells.now o.cells (rw done at o.invariant.1) o.sum (omega arith) (rw done at o.invariant.0)
