use Prim.Native.Nat.{◌*◌}
use mathlib.Core.Path.{◌≡◌, sym}
use native.Mathlib.Omega.{arith}
use lib.ListN.{drop, length}
use mathlib.Core.List.{◌++◌}
use Rattle.std.proofs.lemmas.List.{length-take-le}
use Rattle.counting.specs.Paper.Lists.{listed, over}
use Rattle.matrix.specs.Paper.Code.{Matrix}
use Rattle.matrix.specs.Paper.Shapes.{matrix_of}
use Rattle.matrix_columns.specs.Columns.{columns_size}
use Rattle.matrix_columns.specs.Filling.{blank}
use Rattle.matrix_columns.proofs.Filling.{room-is, cleared-is, puts_none, puts-next, puts-room, puts-fit, rows-done}
use Rattle.matrix_columns.proofs.build.Goals as goal

pub slice_bounds-fill-end : goal.slice_bounds-fill-end
slice_bounds-fill-end c = omega (arith, room-is (matrix_of c.args.shape c.args.list.now) c.requires.1)

pub slice_bounds-fill-end-2 : goal.slice_bounds-fill-end-2
slice_bounds-fill-end-2 c = sym (length-take-le _ _ (omega (arith, room-is (matrix_of c.args.shape c.args.list.now) c.requires.1)))

pub loop-i-init : goal.loop-i-init
loop-i-init c = puts_none (matrix_of c.args.shape c.args.list.now) _

pub place_row-requires : goal.place_row-requires
place_row-requires c =
    let lent : Matrix = matrix_of c.args.shape c.args.list.now in
    let s = c in
    let l = c.loop-i in
    let cleared : c.fill.new.self ++ drop (17 * c.args.shape.n) s.args.columns.now ≡ over (listed (columns_size lent) blank) s.args.columns.now =
    cleared-is lent s.args.columns.now _ (room-is lent s.requires.1) (c.fill.ensures.after (λ y e. e)) in
    let room : length l.columns ≡ length s.args.columns.now = puts-room lent s.requires.0 s.args.columns.now _ s.requires.1 cleared l.i l.columns l.invariant in (
      s.requires.0,
      omega arith,
      omega (arith, s.requires.1, room),
      puts-fit lent s.requires.0 s.args.columns.now _ s.requires.1 cleared l.i l.columns (omega arith) l.invariant,
    )

pub loop-i-preserved : goal.loop-i-preserved
loop-i-preserved c = puts-next (matrix_of c.args.shape c.args.list.now) c.loop-i.i _ c.loop-i.columns _ c.loop-i.invariant c.place_row.ensures

pub returns : goal.returns
returns c =
    let lent : Matrix = matrix_of c.args.shape c.args.list.now in
    let s = c in
    let l = c.loop-i in
    let cleared : c.fill.new.self ++ drop (17 * c.args.shape.n) s.args.columns.now ≡ over (listed (columns_size lent) blank) s.args.columns.now =
    cleared-is lent s.args.columns.now _ (room-is lent s.requires.1) (c.fill.ensures.after (λ y e. e)) in
    let e : l.i ≡ s.args.shape.m = omega arith in
    rows-done lent s.requires.0 s.args.columns.now _ s.requires.1 cleared l.columns (rw e at l.invariant)
