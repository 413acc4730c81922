use Prim.Native.Nat.{◌+◌, ◌*◌, ◌/◌, ◌≤◌, ◌<◌}
use mathlib.Core.Path.{◌≡◌, ap, ◌∙◌}
use native.Mathlib.Nat.{le_antisymm}
use native.Mathlib.Omega.{arith}
use lib.ListN.{length}
use lib.Seq.{length-sets}
use Rattle.counting.specs.Paper.Joined.{joined}
use Rattle.matrix.specs.Paper.Code.{Matrix}
use Rattle.matrix.specs.Paper.Shapes.{matrix_of}
use Rattle.byte_numbers.proofs.Joining.{sets-none}
use Rattle.sheet_store.specs.Storing.{row_shifts}
use Rattle.sheet_store.proofs.Shifts.{row_next, row_room}
use Rattle.sheet_store.proofs.put_shifts.Goals as goal

pub overflow_cast-rho : goal.overflow_cast-rho
overflow_cast-rho c = omega (arith, c.requires.0.sizes.rho_most)

pub overflow_cast-rows : goal.overflow_cast-rows
overflow_cast-rows c = omega (arith, c.requires.0.sizes.m_most)

pub nonzero_div-rows : goal.nonzero_div-rows
nonzero_div-rows c = c.requires.1.some

pub loop-r-init : goal.loop-r-init
loop-r-init c =
    let lent : Matrix = matrix_of c.args.shape c.args.list.now in
    let s = c in
    sets-none (row_shifts (lent) s.args.z) s.args.sheet.now s.args.from

pub overflow_mul-r : goal.overflow_mul-r
overflow_mul-r c =
    let lent : Matrix = matrix_of c.args.shape c.args.list.now in
    let room : c.args.from + 2 * (c.loop-r.r * c.args.shape.rho) + 2 * c.args.shape.rho ≤ length c.args.sheet.now = let s = c in
    row_room (lent) s.args.z c.loop-r.r s.args.from (length s.args.sheet.now) (omega arith) s.requires.2 in
    let far : c.args.from + 2 * (c.loop-r.r * c.args.shape.rho) < 18446744073709551616 = omega (arith, room, c.well_formed.1.1.1.1.0.0) in
    omega (arith, far)

pub overflow_mul-r-in-loop-r : goal.overflow_mul-r-in-loop-r
overflow_mul-r-in-loop-r c =
    let lent : Matrix = matrix_of c.args.shape c.args.list.now in
    let room : c.args.from + 2 * (c.loop-r.r * c.args.shape.rho) + 2 * c.args.shape.rho ≤ length c.args.sheet.now = let s = c in
    row_room (lent) s.args.z c.loop-r.r s.args.from (length s.args.sheet.now) (omega arith) s.requires.2 in
    let far : c.args.from + 2 * (c.loop-r.r * c.args.shape.rho) < 18446744073709551616 = omega (arith, room, c.well_formed.1.1.1.1.0.0) in
    omega (arith, far)

pub overflow_add-from : goal.overflow_add-from
overflow_add-from c =
    let lent : Matrix = matrix_of c.args.shape c.args.list.now in
    let room : c.args.from + 2 * (c.loop-r.r * c.args.shape.rho) + 2 * c.args.shape.rho ≤ length c.args.sheet.now = let s = c in
    row_room (lent) s.args.z c.loop-r.r s.args.from (length s.args.sheet.now) (omega arith) s.requires.2 in
    let far : c.args.from + 2 * (c.loop-r.r * c.args.shape.rho) < 18446744073709551616 = omega (arith, room, c.well_formed.1.1.1.1.0.0) in
    omega (arith, far)

pub put_row_shifts-requires : goal.put_row_shifts-requires
put_row_shifts-requires c =
    let lent : Matrix = matrix_of c.args.shape c.args.list.now in
    let room : c.args.from + 2 * (c.loop-r.r * c.args.shape.rho) + 2 * c.args.shape.rho ≤ length c.args.sheet.now = let s = c in
    row_room (lent) s.args.z c.loop-r.r s.args.from (length s.args.sheet.now) (omega arith) s.requires.2 in
    let long : length c.loop-r.sheet ≡ length c.args.sheet.now = let s = c in
    ap length c.loop-r.invariant ∙ length-sets s.args.sheet.now s.args.from (joined c.loop-r.r (row_shifts (lent) s.args.z)) in
    let s = c in
    (s.requires.0, s.requires.1, omega arith, omega (arith, room, long))

pub loop-r-preserved : goal.loop-r-preserved
loop-r-preserved c =
    let lent : Matrix = matrix_of c.args.shape c.args.list.now in
    let s = c in
    let l = c.loop-r in
    let w = c.put_row_shifts in
    row_next (lent) s.args.z l.r s.args.from s.args.sheet.now l.sheet w.new.sheet l.invariant w.ensures

pub shape_of-sheet : goal.shape_of-sheet
shape_of-sheet c =
    let lent : Matrix = matrix_of c.args.shape c.args.list.now in
    let long : length c.loop-r.sheet ≡ length c.args.sheet.now = let s = c in
    ap length c.loop-r.invariant ∙ length-sets s.args.sheet.now s.args.from (joined c.loop-r.r (row_shifts (lent) s.args.z)) in
    long

pub returns : goal.returns
returns c =
    let s = c in
    let l = c.loop-r in
    let e : l.r ≡ s.args.shape.m / s.args.z = le_antisymm l.auto.r-end (omega arith) in
    rw e at l.invariant
