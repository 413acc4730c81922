-- `program_tables::build` meets its contract: the table over the front, the sets over what is behind it. Assumes nothing.
use mathlib.Core.Path.{◌≡◌, sym}
use mathlib.Core.List.{◌++◌}
use Prim.Native.Nat.{◌-◌}
use native.Mathlib.Omega.{arith}
use lib.ListN.{length, drop, length-drop}
use lib.Seq.{length-take-le}
use Rattle.matrix.specs.Paper.Code.{Matrix}
use Rattle.matrix.specs.Paper.Shapes.{matrix_of}
use Rattle.program_tables.proofs.Tables.{tables-room, front_long, tables-written}
use Rattle.program_tables.proofs.build.Goals as goal

pub slice_bounds-build-end : goal.slice_bounds-build-end
slice_bounds-build-end c =
    let lent : Matrix = matrix_of c.args.shape c.args.list.now in
    let s = c in omega (arith, tables-room (lent) _ s.requires.2)

pub slice_bounds-build-end-2 : goal.slice_bounds-build-end-2
slice_bounds-build-end-2 c =
    let lent : Matrix = matrix_of c.args.shape c.args.list.now in
    let s = c in sym (length-take-le 2050 s.args.tables.now (omega (arith, tables-room (lent) _ s.requires.2)))

pub build-requires : goal.build-requires
build-requires c =
    let lent : Matrix = matrix_of c.args.shape c.args.list.now in
    let s = c in
    (s.requires.1, length-take-le 2050 s.args.tables.now (omega (arith, tables-room (lent) _ s.requires.2)))

pub slice_bounds-build-count : goal.slice_bounds-build-count
slice_bounds-build-count c =
    let lent : Matrix = matrix_of c.args.shape c.args.list.now in
    let front : length (c.build.new.table ++ drop 2050 c.args.tables.now) ≡ length c.args.tables.now = let s = c in
    front_long (lent) _ s.args.tables.now _ (omega (arith, tables-room (lent) _ s.requires.2)) c.build.ensures in
    let s = c in
    omega (arith, tables-room (lent) _ s.requires.2, front)

pub slice_bounds-build-start : goal.slice_bounds-build-start
slice_bounds-build-start c =
    let lent : Matrix = matrix_of c.args.shape c.args.list.now in
    let front : length (c.build.new.table ++ drop 2050 c.args.tables.now) ≡ length c.args.tables.now = let s = c in
    front_long (lent) _ s.args.tables.now _ (omega (arith, tables-room (lent) _ s.requires.2)) c.build.ensures in
    let s = c in
    omega (arith, tables-room (lent) _ s.requires.2, front)

pub build-requires-2 : goal.build-requires-2
build-requires-2 c =
    let lent : Matrix = matrix_of c.args.shape c.args.list.now in
    let front : length (c.build.new.table ++ drop 2050 c.args.tables.now) ≡ length c.args.tables.now = let s = c in
    front_long (lent) _ s.args.tables.now _ (omega (arith, tables-room (lent) _ s.requires.2)) c.build.ensures in
    let s = c in
    let one = c.build.new.table ++ drop 2050 s.args.tables.now in
    (s.requires.0, omega (arith, tables-room (lent) _ s.requires.2, front, length-take-le (length one - 2050) (drop 2050 one) (omega (arith, length-drop 2050 one)), length-drop 2050 one))

pub returns : goal.returns
returns c =
    let lent : Matrix = matrix_of c.args.shape c.args.list.now in
    let s = c in
    tables-written (lent) _ s.args.tables.now _ _ c.build.ensures c.build-2.ensures
