use mathlib.Core.Path.{◌≡◌, ap}
use Prim.Native.Nat.{ℕ, ◌+◌, ◌*◌}
use native.Mathlib.Omega.{arith}
use lib.ListN.{get_or}
use Rattle.matrix.specs.Paper.Code.{entry}
use Rattle.matrix.specs.Paper.Shapes.{matrix_of}
use Rattle.matrix_meeting.proofs.Gone.{word_at, gone-more, met-says}
use Rattle.matrix_meeting.proofs.met_twice.Goals as goal

pub loop-k-preserved : goal.loop-k-preserved
loop-k-preserved c =
    let b = c in
    let w = b.args.seen.now in
    let l = c.loop-k in
    let col = c.column-at in
    let H = matrix_of b.args.shape b.args.list.now in
    let f = word_at H b.args.i w in
    let at : (v : ℕ) → get_or w (col.result * 4 + v) 0 ≡ f v l.k = λ v. ap (λ (x : ℕ). get_or w (x * 4 + v) 0) col.ensures.is in
    let first : col.result * 4 ≡ entry H b.args.i l.k * 4 + 0 = omega (arith, col.ensures.is) in (
      gone-more (f 0) l.invariant.0 (ap (λ (x : ℕ). get_or w x 0) first) c.meet-a.ensures,
      gone-more (f 1) l.invariant.1 (at 1) c.meet-b.ensures,
      gone-more (f 2) l.invariant.2 (at 2) c.meet-c.ensures,
      gone-more (f 3) l.invariant.3 (at 3) c.meet-d.ensures,
    )

pub returns : goal.returns
returns c =
    let a = c.args in
    let H = matrix_of a.shape a.list.now in
    let l = c.loop-k in
    let e : l.k ≡ a.shape.rho = omega arith in
    met-says H a.i a.seen.now (rw e at l.invariant.0) (rw e at l.invariant.1) (rw e at l.invariant.2) (rw e at l.invariant.3)
    (omega (arith, c.struct_known-2-1.given)) (omega (arith, c.struct_known-3-1.given))
    (omega (arith, c.struct_known-4-1.given)) (omega (arith, c.struct_known-5-1.given))
