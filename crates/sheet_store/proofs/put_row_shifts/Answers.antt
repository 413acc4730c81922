use mathlib.Core.Path.{◌≡◌, ap, ◌∙◌}
use native.Mathlib.Nat.{le_antisymm, mod-le}
use native.Mathlib.Omega.{arith}
use lib.ListN.{length}
use lib.Seq.{length-sets}
use Rattle.counting.specs.Paper.Joined.{joined}
use Rattle.matrix.specs.Paper.Code.{Matrix}
use Rattle.matrix.specs.Paper.Shapes.{matrix_of}
use Rattle.matrix.proofs.Ordered.{accepted-ordered}
use Rattle.sheet_store.proofs.Marking.{row_in}
use Rattle.sheet_store.specs.Storing.{shift_bytes}
use Rattle.sheet_store.proofs.Shifts.{shift_none, shift-next, shift-all}
use Rattle.sheet_store.proofs.put_row_shifts.Goals as goal

pub overflow_cast-rho : goal.overflow_cast-rho
overflow_cast-rho c = omega (arith, c.requires.0.sizes.rho_most)

pub loop-k-init : goal.loop-k-init
loop-k-init c =
    let lent : Matrix = matrix_of c.args.shape c.args.list.now in
    let s = c in
    shift_none (lent) s.args.z s.args.r s.args.p s.args.sheet.now

pub overflow_mul-r : goal.overflow_mul-r
overflow_mul-r c =
    let lent : Matrix = matrix_of c.args.shape c.args.list.now in
    let s = c in
    omega (arith, row_in (lent) s.args.z s.requires.0 s.requires.1 s.args.r s.requires.2, s.requires.0.sizes.m_most)

pub column-e-requires : goal.column-e-requires
column-e-requires c =
    let lent : Matrix = matrix_of c.args.shape c.args.list.now in
    let s = c in (
      accepted-ordered (lent) s.requires.0,
      row_in (lent) s.args.z s.requires.0 s.requires.1 s.args.r s.requires.2,
      omega arith,
    )

pub nonzero_rem-e : goal.nonzero_rem-e
nonzero_rem-e c = c.requires.1.some

pub overflow_cast-e : goal.overflow_cast-e
overflow_cast-e c =
    omega (arith, mod-le c.column-e.result c.args.z, c.column-e.ensures.below)

pub overflow_mul-k : goal.overflow_mul-k
overflow_mul-k c = omega (arith, c.requires.0.sizes.rho_most)

pub overflow_add-p : goal.overflow_add-p
overflow_add-p c =
    let s = c in
    omega (arith, s.requires.3, s.well_formed.1.1.1.1.1.0.0)

pub put16-requires : goal.put16-requires
put16-requires c =
    let lent : Matrix = matrix_of c.args.shape c.args.list.now in
    let long : length c.loop-k.sheet ≡ length c.args.sheet.now = let s = c in
    ap length c.loop-k.invariant ∙ length-sets s.args.sheet.now s.args.p (joined c.loop-k.k (shift_bytes (lent) s.args.z s.args.r)) in
    let s = c in
    omega (arith, s.requires.3, long)

pub loop-k-preserved : goal.loop-k-preserved
loop-k-preserved c =
    let lent : Matrix = matrix_of c.args.shape c.args.list.now in
    let s = c in
    let l = c.loop-k in
    let e = c.column-e in
    let w = c.put16 in
    shift-next (lent) s.args.z s.args.r s.args.p s.args.sheet.now l.k e.result l.sheet w.new.bytes e.ensures.is
    l.invariant w.ensures

pub shape_of-sheet : goal.shape_of-sheet
shape_of-sheet c =
    let lent : Matrix = matrix_of c.args.shape c.args.list.now in
    let long : length c.loop-k.sheet ≡ length c.args.sheet.now = let s = c in
    ap length c.loop-k.invariant ∙ length-sets s.args.sheet.now s.args.p (joined c.loop-k.k (shift_bytes (lent) s.args.z s.args.r)) in
    long

pub returns : goal.returns
returns c =
    let lent : Matrix = matrix_of c.args.shape c.args.list.now in
    let s = c in
    let l = c.loop-k in
    let e : l.k ≡ s.args.shape.rho = le_antisymm l.auto.k-end (omega arith) in
    shift-all (lent) s.args.z s.args.r s.args.p s.args.sheet.now l.sheet (rw e at l.invariant)
