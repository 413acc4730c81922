use mathlib.Core.Bool.{not}
use mathlib.Core.Path.{ap}
use Prim.Native.Nat.{◌≤◌, ◌<◌}
use mathlib.Core.Path.{◌≡◌, refl}
use mathlib.Core.Bool.{true}
use native.Mathlib.Omega.{arith}
use borrow.Author.Tests.{not-false}
use lib.ListN.{length}
use Rattle.counting.specs.Places.{at}
use Rattle.matrix.specs.Paper.Code.{Matrix}
use Rattle.matrix.specs.Paper.Shapes.{matrix_of}
use Rattle.matrix_index.proofs.Cursors.{cursors-none}
use Rattle.matrix_index_replay.proofs.Numbers.{row-all, row-behind, rows_more, rows-ended, size_room}
use Rattle.matrix_index_replay.proofs.rows_stand.Goals as goal

pub copy_front-requires : goal.copy_front-requires
copy_front-requires c =
    let lent : Matrix = matrix_of c.args.shape c.args.list.now in
    let room : (c.args.shape.n < length c.args.index.now) × (length c.args.index.now ≤ 33760) = size_room (lent) c.args.index.now c.requires.0 c.requires.1 in
    let s = c in
    (omega (arith, (room).0), omega (arith, s.requires.0.sized.sizes.n_most))

pub loop-i-init : goal.loop-i-init
loop-i-init c =
    let lent : Matrix = matrix_of c.args.shape c.args.list.now in
    let s = c in
    (cursors-none (lent) s.requires.0 (at s.args.index.now) _ _ refl c.copy_front.ensures, λ r l. absurd (omega arith))

pub row_laid_out-requires : goal.row_laid_out-requires
row_laid_out-requires c =
    let lent : Matrix = matrix_of c.args.shape c.args.list.now in
    let room : (c.args.shape.n < length c.args.index.now) × (length c.args.index.now ≤ 33760) = size_room (lent) c.args.index.now c.requires.0 c.requires.1 in
    let s = c in
    (s.requires.0, omega arith, (room).1, c.loop-i.invariant.0)

pub loop-i-preserved : goal.loop-i-preserved
loop-i-preserved c =
    let lent : Matrix = matrix_of c.args.shape c.args.list.now in
    let s = c in
    let l = c.loop-i in
    let y : c.row_laid_out.result ≡ true = not-false _ (ap not c.if-not-row_laid_out.false) in
    let e = c.row_laid_out.ensures in (
      row-behind (lent) l.i s.args.index.now _ _ _ e s.requires.0 (omega arith) y,
      rows_more (lent) s.args.index.now l.i l.invariant.1 (row-all (lent) l.i s.args.index.now _ _ _ e y),
    )

pub slice_bounds-eq-end-2 : goal.slice_bounds-eq-end-2
slice_bounds-eq-end-2 c =
    let lent : Matrix = matrix_of c.args.shape c.args.list.now in
    omega (arith, (size_room lent c.args.index.now c.requires.0 c.requires.1).0)

pub returns : goal.returns
returns c =
    let lent : Matrix = matrix_of c.args.shape c.args.list.now in
    let s = c in
    let l = c.loop-i in
    let e : l.i ≡ s.args.shape.m = omega arith in
    rows-ended lent s.args.index.now l.cursors (rw e at l.invariant.0) c.eq.result s.requires.0.sized.sizes.n_most
    (size_room lent s.args.index.now s.requires.0 s.requires.1).0 (rw e at l.invariant.1) c.eq.ensures
