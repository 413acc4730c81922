use mathlib.Core.Path.{◌≡◌, sym, ap, ◌∙◌}
use Prim.Native.Nat.{ℕ}
use native.Mathlib.Omega.{arith}
use lib.ListN.{get_or}
use Rattle.counting.proofs.Loops.{sum_start, sum_step}
use Rattle.matrix.specs.Paper.Code.{entry}
use Rattle.matrix.specs.Paper.Shapes.{matrix_of}
use Rattle.matrix.specs.Tallies.{mark_at}
use Rattle.matrix.proofs.Ordered.{column-below}
use Rattle.matrix.proofs.Tallies.{tally-le, tally-common}
use Rattle.matrix_overlap.proofs.common_with.Goals as goal

pub loop-k-init : goal.loop-k-init
loop-k-init c = record { sum = sym (sum_start _); small = omega arith }

pub loop-k-preserved : goal.loop-k-preserved
unfolding mark_at
loop-k-preserved c =
    let b = c in
    let H = matrix_of b.args.shape b.args.list.now in
    let w = b.args.marks.now in
    let col = c.column-c in
    let small = tally-le (entry H b.args.i) b.args.shape.rho w b.requires.2 col.result col.ensures.below in
    let here = ap (λ (x : ℕ). get_or w x 0) col.ensures.is in
    record {
      sum = omega (arith, here, c.loop-k.invariant.sum, sum_step c.loop-k.k (mark_at H b.args.later w));
      small = omega (arith, small, b.requires.0.sized.sizes.rho_most, c.loop-k.invariant.small);
    }

pub returns : goal.returns
returns c =
    let b = c in
    let H = matrix_of b.args.shape b.args.list.now in
    let end : c.loop-k.k ≡ H.rho = omega arith in
    rw end at c.loop-k.invariant.sum
    ∙ tally-common H b.args.i b.args.later b.args.marks.now b.requires.2 (λ k h. column-below b.requires.0 b.args.later k b.requires.1 h)
