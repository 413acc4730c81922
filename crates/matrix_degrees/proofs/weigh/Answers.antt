-- `matrix_degrees::weigh`: gamma filled in where nothing else fits the sizes, else the list counted.
use native.Mathlib.Omega.{arith}
use Rattle.counting.proofs.Writes.{over-long}
use Rattle.matrix.specs.Paper.Code.{Matrix}
use Rattle.matrix.specs.Paper.Shapes.{matrix_of}
use Rattle.matrix.proofs.Ordered.{few, accepted-ordered}
use Rattle.matrix_degrees.specs.Degrees.{always}
use Rattle.matrix_degrees.proofs.Degrees.{filled, filled-equal, counted-weights, entry-low, cleared}
use Rattle.matrix_degrees.proofs.weigh.Goals as goal

pub returns-then-list-n : goal.returns-then-list-n
returns-then-list-n c =
    let s = c in
    let H : Matrix = matrix_of s.args.shape s.args.list.now in
    let w = s.args.weights.now in
    filled-equal H s.requires w _ c.if-list-n.true
    (filled H.n H.gamma w c.fill.new.self (omega (arith, s.requires.sizes.n_most)) (c.fill.ensures.after (λ y q. q)))

pub count_all-requires : goal.count_all-requires
count_all-requires c =
    let s = c in
    let H : Matrix = matrix_of s.args.shape s.args.list.now in
    let w = s.args.weights.now in
    let f = filled H.n 0 w c.fill-2.new.self (omega (arith, s.requires.sizes.n_most)) (c.fill-2.ensures.after (λ y q. q)) in (
      omega (arith, few (accepted-ordered H s.requires).sized),
      omega (arith, over-long H.n (always 0) w _ f (omega (arith, s.requires.sizes.n_most))),
      λ p h. (
        omega (arith, entry-low H s.requires p h, s.requires.sizes.n_most),
        cleared H.n w _ f _ (entry-low H s.requires p h),
      ),
    )

pub returns : goal.returns
returns c =
    let s = c in
    let H : Matrix = matrix_of s.args.shape s.args.list.now in
    let w = s.args.weights.now in
    let f = filled H.n 0 w c.fill-2.new.self (omega (arith, s.requires.sizes.n_most)) (c.fill-2.ensures.after (λ y q. q)) in
    counted-weights H s.requires w _ c.count_all.new.cells (omega arith) f c.count_all.ensures
