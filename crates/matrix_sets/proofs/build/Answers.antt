-- `matrix_sets::build` meets its contract: the columns over the front, the rows over what is behind it. Assumes nothing.
use mathlib.Core.Path.{◌≡◌, sym}
use mathlib.Core.List.{◌++◌}
use Prim.Native.Nat.{◌-◌, ◌*◌, ◌≤◌}
use native.Mathlib.Omega.{arith}
use lib.ListN.{length, drop, length-drop}
use lib.Seq.{length-take-le}
use Rattle.counting.proofs.Parts.{front_kept}
use Rattle.matrix.specs.Paper.Code.{Matrix}
use Rattle.matrix.specs.Paper.Shapes.{matrix_of}
use Rattle.matrix_sets.proofs.Sets.{sets-room, front-size, sets-written}
use Rattle.matrix_sets.proofs.build.Goals as goal

pub slice_bounds-build-end : goal.slice_bounds-build-end
slice_bounds-build-end c =
    let lent : Matrix = matrix_of c.args.shape c.args.list.now in
    let front-room : 17 * c.args.shape.n ≤ length c.args.sets.now = (sets-room (lent) c.requires.1).0 in
    front-room

pub slice_bounds-build-end-2 : goal.slice_bounds-build-end-2
slice_bounds-build-end-2 c =
    let lent : Matrix = matrix_of c.args.shape c.args.list.now in
    let front-room : 17 * c.args.shape.n ≤ length c.args.sets.now = (sets-room (lent) c.requires.1).0 in
    let s = c in sym (length-take-le (17 * s.args.shape.n) s.args.sets.now (front-room))

pub build-requires : goal.build-requires
build-requires c =
    let lent : Matrix = matrix_of c.args.shape c.args.list.now in
    let front-room : 17 * c.args.shape.n ≤ length c.args.sets.now = (sets-room (lent) c.requires.1).0 in
    let s = c in
    (s.requires.0, omega (arith, (sets-room (lent) s.requires.1).1, length-take-le (17 * s.args.shape.n) s.args.sets.now (front-room)))

pub slice_bounds-build-count : goal.slice_bounds-build-count
slice_bounds-build-count c =
    let lent : Matrix = matrix_of c.args.shape c.args.list.now in
    let front-room : 17 * c.args.shape.n ≤ length c.args.sets.now = (sets-room (lent) c.requires.1).0 in
    let front : length (c.build.new.columns ++ drop (17 * c.args.shape.n) c.args.sets.now) ≡ length c.args.sets.now = let s = c in
    front_kept (17 * s.args.shape.n) s.args.sets.now c.build.new.columns (front-room) (front-size (lent) s.args.sets.now c.build.new.columns (front-room) c.build.ensures) in
    let s = c in omega (arith, front-room, front)

pub slice_bounds-build-start : goal.slice_bounds-build-start
slice_bounds-build-start c =
    let lent : Matrix = matrix_of c.args.shape c.args.list.now in
    let front-room : 17 * c.args.shape.n ≤ length c.args.sets.now = (sets-room (lent) c.requires.1).0 in
    let front : length (c.build.new.columns ++ drop (17 * c.args.shape.n) c.args.sets.now) ≡ length c.args.sets.now = let s = c in
    front_kept (17 * s.args.shape.n) s.args.sets.now c.build.new.columns (front-room) (front-size (lent) s.args.sets.now c.build.new.columns (front-room) c.build.ensures) in
    let s = c in omega (arith, front-room, front)

pub build-requires-2 : goal.build-requires-2
build-requires-2 c =
    let lent : Matrix = matrix_of c.args.shape c.args.list.now in
    let front-room : 17 * c.args.shape.n ≤ length c.args.sets.now = (sets-room (lent) c.requires.1).0 in
    let front : length (c.build.new.columns ++ drop (17 * c.args.shape.n) c.args.sets.now) ≡ length c.args.sets.now = let s = c in
    front_kept (17 * s.args.shape.n) s.args.sets.now c.build.new.columns (front-room) (front-size (lent) s.args.sets.now c.build.new.columns (front-room) c.build.ensures) in
    let s = c in
    let k = 17 * s.args.shape.n in
    let one = c.build.new.columns ++ drop k s.args.sets.now in
    (s.requires.0, omega (arith, (sets-room (lent) s.requires.1).2, front, length-take-le (length one - k) (drop k one) (omega (arith, length-drop k one)), length-drop k one))

pub returns : goal.returns
returns c =
    let lent : Matrix = matrix_of c.args.shape c.args.list.now in
    let front-room : 17 * c.args.shape.n ≤ length c.args.sets.now = (sets-room (lent) c.requires.1).0 in
    let s = c in
    sets-written (lent) s.args.sets.now _ _ (front-room) c.build.ensures c.build-2.ensures
