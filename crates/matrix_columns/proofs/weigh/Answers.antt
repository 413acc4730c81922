use Prim.Native.Nat.{ℕ, ◌+◌, ◌*◌}
use mathlib.Core.Path.{refl, sym}
use native.Mathlib.Omega.{arith}
use Rattle.counting.specs.Places.{at}
use Rattle.counting.proofs.Writes.{over_none, over-step}
use Rattle.matrix_columns.proofs.weigh.Goals as goal

pub loop-j-init : goal.loop-j-init
loop-j-init c = sym (over_none _ _)

pub loop-j-preserved : goal.loop-j-preserved
loop-j-preserved c =
    let l = c in
    let p = l.requires in
    let a = l.args in
    let f : ℕ → ℕ = λ q. at a.columns.now (16 * a.n + q) in
    over-step l.loop-j.j f a.weights.now l.loop-j.weights l.loop-j.invariant _ (omega (arith, p.0, p.3)) refl
