use mathlib.Core.Path.{◌≡◌, refl}
use native.Mathlib.Omega.{arith}
use Rattle.matrix.specs.Paper.Code.{Matrix}
use Rattle.matrix.specs.Paper.Shapes.{matrix_of}
use Rattle.matrix.proofs.Ordered.{accepted-ordered}
use Rattle.matrix_index.specs.Paper.Index.{column_start}
use Rattle.matrix_index.proofs.Cursors.{cursors-none}
use Rattle.matrix_index.proofs.Filling.{puts_none, puts-next, rows-done, size-past}
use Rattle.matrix_index.proofs.build.Goals as goal

pub set_out-requires : goal.set_out-requires
set_out-requires c =
    let lent : Matrix = matrix_of c.args.shape c.args.list.now in
    let s = c in
    (s.requires.0, omega (arith, s.requires.1, size-past (lent) s.requires.0))

pub loop-i-init : goal.loop-i-init
loop-i-init c =
    let lent : Matrix = matrix_of c.args.shape c.args.list.now in
    let s = c in (
      cursors-none (lent) (accepted-ordered (lent) s.requires.0) (column_start (lent)) _ _ refl c.set_out.ensures.0,
      puts_none (lent) _,
    )

pub loop-i-preserved : goal.loop-i-preserved
loop-i-preserved c =
    let lent : Matrix = matrix_of c.args.shape c.args.list.now in
    let s = c in
    let l = c.loop-i in
    let p = c.place_row.ensures in
    (p.0.cursors, puts-next (lent) l.i _ l.index _ l.invariant.1 p.1)

pub returns : goal.returns
returns c =
    let lent : Matrix = matrix_of c.args.shape c.args.list.now in
    let s = c in
    let l = c.loop-i in
    rows-done (lent) s.requires.0 s.args.index.now s.requires.1 _ c.set_out.ensures.1 l.index
    (let e : l.i ≡ s.args.shape.m = omega arith in rw e at l.invariant.1)
