-- `sheet_store::store` meets its contract: heading, map and shifts are written one after the other. Assumes nothing.
use Prim.Native.Nat.{◌+◌, ◌*◌, ◌/◌, ◌≤◌}
use native.Mathlib.Nat.{div-le_self}
use native.Mathlib.Omega.{arith}
use lib.ListN.{length}
use Rattle.packed_word.specs.Paper.Packed.{bytes_for}
use Rattle.matrix.specs.Paper.Code.{Matrix}
use Rattle.matrix.specs.Paper.Shapes.{matrix_of}
use Rattle.sheet.specs.Parts.{Grid}
use Rattle.sheet.proofs.MadeBytes.{made-long}
use Rattle.sheet.proofs.Described.{describes-grid}
use Rattle.sheet_store.proofs.Joining.{part-long}
use Rattle.sheet_store.proofs.Whole.{few-places, map-put, map-long, sheet-whole}
use Rattle.sheet_store.proofs.store.Goals as goal

pub nonzero_div-rows : goal.nonzero_div-rows
nonzero_div-rows c =
    let lent : Matrix = matrix_of c.args.shape c.args.list.now in
    let grid : Grid (lent) c.args.z = describes-grid (lent) c.args.z c.requires.1 in
    (grid).some

pub nonzero_div-columns : goal.nonzero_div-columns
nonzero_div-columns c =
    let lent : Matrix = matrix_of c.args.shape c.args.list.now in
    let grid : Grid (lent) c.args.z = describes-grid (lent) c.args.z c.requires.1 in
    (grid).some

pub overflow_cast-end : goal.overflow_cast-end
overflow_cast-end c =
    let s = c in
    omega (arith, div-le_self s.args.shape.m s.args.z, s.requires.0.sizes.m_most)

pub overflow_cast-end-2 : goal.overflow_cast-end-2
overflow_cast-end-2 c =
    let s = c in
    omega (arith, div-le_self s.args.shape.n s.args.z, s.requires.0.sizes.n_most)

pub overflow_mul-end : goal.overflow_mul-end
overflow_mul-end c =
    let small : c.args.shape.m / c.args.z * (c.args.shape.n / c.args.z) ≤ 1046529 = few-places c.args.shape.m c.args.shape.n c.args.z c.requires.0.sizes.m_most c.requires.0.sizes.n_most in
    omega (arith, small)

pub overflow_add-end : goal.overflow_add-end
overflow_add-end c =
    let small : c.args.shape.m / c.args.z * (c.args.shape.n / c.args.z) ≤ 1046529 = few-places c.args.shape.m c.args.shape.n c.args.z c.requires.0.sizes.m_most c.requires.0.sizes.n_most in
    omega (arith, small)

pub overflow_add-end-2 : goal.overflow_add-end-2
overflow_add-end-2 c =
    let small : c.args.shape.m / c.args.z * (c.args.shape.n / c.args.z) ≤ 1046529 = few-places c.args.shape.m c.args.shape.n c.args.z c.requires.0.sizes.m_most c.requires.0.sizes.n_most in
    omega (arith, small)

pub put_heading-requires : goal.put_heading-requires
put_heading-requires c =
    let lent : Matrix = matrix_of c.args.shape c.args.list.now in
    let room : 6 + bytes_for (c.args.shape.m / c.args.z * (c.args.shape.n / c.args.z)) + 2 * (c.args.shape.m / c.args.z * c.args.shape.rho) ≤ length c.args.sheet.now = omega (arith, made-long (lent) c.args.z, c.requires.2) in
    omega (arith, room)

pub slice_bounds-put_map-end : goal.slice_bounds-put_map-end
slice_bounds-put_map-end c =
    let lent : Matrix = matrix_of c.args.shape c.args.list.now in
    let room : 6 + bytes_for (c.args.shape.m / c.args.z * (c.args.shape.n / c.args.z)) + 2 * (c.args.shape.m / c.args.z * c.args.shape.rho) ≤ length c.args.sheet.now = omega (arith, made-long (lent) c.args.z, c.requires.2) in
    omega (arith, room, c.put_heading.auto.sheet)

pub put_map-requires : goal.put_map-requires
put_map-requires c =
    let lent : Matrix = matrix_of c.args.shape c.args.list.now in
    let grid : Grid (lent) c.args.z = describes-grid (lent) c.args.z c.requires.1 in
    let room : 6 + bytes_for (c.args.shape.m / c.args.z * (c.args.shape.n / c.args.z)) + 2 * (c.args.shape.m / c.args.z * c.args.shape.rho) ≤ length c.args.sheet.now = omega (arith, made-long (lent) c.args.z, c.requires.2) in
    let s = c in
    let w = c.put_heading in (
      s.requires.0,
      grid,
      part-long w.new.sheet 6 (bytes_for (s.args.shape.m / s.args.z * (s.args.shape.n / s.args.z))) (omega (arith, room, w.auto.sheet)),
    )

pub put_shifts-requires : goal.put_shifts-requires
put_shifts-requires c =
    let lent : Matrix = matrix_of c.args.shape c.args.list.now in
    let room : 6 + bytes_for (c.args.shape.m / c.args.z * (c.args.shape.n / c.args.z)) + 2 * (c.args.shape.m / c.args.z * c.args.shape.rho) ≤ length c.args.sheet.now = omega (arith, made-long (lent) c.args.z, c.requires.2) in
    let grid : Grid (lent) c.args.z = describes-grid (lent) c.args.z c.requires.1 in
    let s = c in
    let one = c.put_heading in
    let map = c.put_map in
    let long = map-long (lent) s.args.z one.new.sheet map.new.map map.ensures (omega (arith, room, one.auto.sheet)) in
    (s.requires.0, grid, omega (arith, room, one.auto.sheet, long))

pub returns : goal.returns
returns c =
    let lent : Matrix = matrix_of c.args.shape c.args.list.now in
    let room : 6 + bytes_for (c.args.shape.m / c.args.z * (c.args.shape.n / c.args.z)) + 2 * (c.args.shape.m / c.args.z * c.args.shape.rho) ≤ length c.args.sheet.now = omega (arith, made-long (lent) c.args.z, c.requires.2) in
    let s = c in
    let one = c.put_heading in
    let map = c.put_map in
    let rest = c.put_shifts in
    let two = map-put (lent) s.args.z one.new.sheet map.new.map map.ensures (omega (arith, room, one.auto.sheet)) in
    sheet-whole (lent) s.args.z s.args.sheet.now one.new.sheet _ rest.new.sheet s.requires.2 one.ensures two rest.ensures
