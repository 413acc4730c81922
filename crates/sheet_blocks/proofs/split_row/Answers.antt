use mathlib.Core.Path.{◌≡◌, sym}
use Prim.Native.Nat.{◌*◌}
use native.Mathlib.Nat.{le_antisymm, mod-le}
use native.Mathlib.Omega.{arith}
use Rattle.counting.proofs.Writes.{over_none, over-step}
use Rattle.matrix.specs.Paper.Shapes.{matrix_of}
use Rattle.sheet_blocks.proofs.Blocks.{start_by, shift_by, start_is, shift_is, split_done, first-in, first-place, short}
use Rattle.sheet_blocks.proofs.split_row.Goals as goal

pub overflow_mul-from : goal.overflow_mul-from
overflow_mul-from c =
    let s = c in
    omega (arith, first-in s.requires.0 s.args.r s.requires.1, s.requires.0.accepted.sizes.m_most)

pub overflow_mul-from-2 : goal.overflow_mul-from-2
overflow_mul-from-2 c =
    let s = c in
    let y = s.requires.0 in
    omega (arith, first-place y s.args.r 0 s.requires.1 (omega (arith, y.accepted.sizes.rho_least)), short y)

pub loop-k-init : goal.loop-k-init
loop-k-init c = (sym (over_none _ _), sym (over_none _ _))

pub overflow_add-e : goal.overflow_add-e
overflow_add-e c =
    let s = c in
    let y = s.requires.0 in
    omega (arith, first-place y s.args.r c.loop-k.k s.requires.1 (omega arith), short y)

pub offset_bounds-list-from : goal.offset_bounds-list-from
offset_bounds-list-from c =
    let s = c in
    let y = s.requires.0 in
    omega (arith, first-place y s.args.r c.loop-k.k s.requires.1 (omega arith), short y)

pub bounds-list-from : goal.bounds-list-from
bounds-list-from c =
    let s = c in
    first-place s.requires.0 s.args.r c.loop-k.k s.requires.1 (omega arith)

pub nonzero_rem-shift : goal.nonzero_rem-shift
nonzero_rem-shift c = c.requires.0.filled.some

pub overflow_sub-starts : goal.overflow_sub-starts
overflow_sub-starts c = mod-le _ _

pub offset_bounds-starts-k : goal.offset_bounds-starts-k
offset_bounds-starts-k c = omega (arith, c.requires.0.accepted.sizes.rho_most)

pub bounds-starts-k : goal.bounds-starts-k
bounds-starts-k c = omega (arith, c.requires.0.accepted.sizes.rho_most)

pub offset_bounds-shifts-k : goal.offset_bounds-shifts-k
offset_bounds-shifts-k c = omega (arith, c.requires.0.accepted.sizes.rho_most)

pub bounds-shifts-k : goal.bounds-shifts-k
bounds-shifts-k c = omega (arith, c.requires.0.accepted.sizes.rho_most)

pub loop-k-preserved : goal.loop-k-preserved
loop-k-preserved c =
    let s = c in
    let a = s.args in
    let l = c.loop-k in
    let from = a.r * a.z * a.shape.rho in (
      over-step l.k (start_by a.list.now a.z from) a.starts.now l.starts l.invariant.0 _
          (omega (arith, s.requires.0.accepted.sizes.rho_most, s.requires.2)) (start_is a.list.now a.z from l.k),
      over-step l.k (shift_by a.list.now a.z from) a.shifts.now l.shifts l.invariant.1 _
          (omega (arith, s.requires.0.accepted.sizes.rho_most, s.requires.3)) (shift_is a.list.now a.z from l.k),
    )

pub returns : goal.returns
returns c =
    let s = c in
    let a = s.args in
    let l = c.loop-k in
    let e : l.k ≡ a.shape.rho = le_antisymm l.auto.k-end (omega arith) in
    split_done (matrix_of a.shape a.list.now) a.z a.r l.starts a.starts.now l.shifts a.shifts.now
    (rw e at l.invariant.0) (rw e at l.invariant.1)
