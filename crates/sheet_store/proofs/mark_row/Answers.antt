use Prim.Native.Nat.{◌+◌, ◌*◌, ◌/◌, ◌<◌}
use mathlib.Core.Path.{◌≡◌, sym, subst, ◌∙◌}
use native.Mathlib.Nat.{le_antisymm}
use native.Mathlib.Omega.{arith}
use Rattle.packed_word.specs.Steps.{SetBit}
use Rattle.matrix.specs.Paper.Code.{Matrix}
use Rattle.matrix.specs.Paper.Shapes.{matrix_of}
use Rattle.matrix.proofs.Ordered.{accepted-ordered}
use Rattle.sheet_store.proofs.Marking.{row_in, place_is, place-small, place-fits, marked_step, marked_row}
use Rattle.sheet_store.proofs.mark_row.Goals as goal

pub overflow_cast-rho : goal.overflow_cast-rho
overflow_cast-rho c = omega (arith, c.requires.0.sizes.rho_most)

pub overflow_cast-columns : goal.overflow_cast-columns
overflow_cast-columns c = omega (arith, c.requires.0.sizes.n_most)

pub nonzero_div-columns : goal.nonzero_div-columns
nonzero_div-columns c = c.requires.1.some

pub loop-k-init : goal.loop-k-init
loop-k-init c = c.requires.3

pub overflow_mul-r : goal.overflow_mul-r
overflow_mul-r c =
    let lent : Matrix = matrix_of c.args.shape c.args.list.now in
    let s = c in
    omega (arith, row_in (lent) s.args.z s.requires.0 s.requires.1 s.args.r s.requires.2, s.requires.0.sizes.m_most)

pub column-e-requires : goal.column-e-requires
column-e-requires c =
    let lent : Matrix = matrix_of c.args.shape c.args.list.now in
    let s = c in (
      accepted-ordered (lent) s.requires.0,
      row_in (lent) s.args.z s.requires.0 s.requires.1 s.args.r s.requires.2,
      omega arith,
    )

pub overflow_mul-r-in-loop-k : goal.overflow_mul-r-in-loop-k
overflow_mul-r-in-loop-k c =
    let lent : Matrix = matrix_of c.args.shape c.args.list.now in
    let near : c.args.r * (c.args.shape.n / c.args.z) + c.column-e.result / c.args.z < 1046529 = let s = c in
    let l = c.loop-k in
    place-small (lent) s.args.z s.requires.0 s.requires.1 s.args.r l.k s.requires.2 (omega arith) c.column-e.result c.column-e.ensures.is in
    omega (arith, near)

pub nonzero_div-e : goal.nonzero_div-e
nonzero_div-e c = c.requires.1.some

pub overflow_add-r : goal.overflow_add-r
overflow_add-r c =
    let lent : Matrix = matrix_of c.args.shape c.args.list.now in
    let near : c.args.r * (c.args.shape.n / c.args.z) + c.column-e.result / c.args.z < 1046529 = let s = c in
    let l = c.loop-k in
    place-small (lent) s.args.z s.requires.0 s.requires.1 s.args.r l.k s.requires.2 (omega arith) c.column-e.result c.column-e.ensures.is in
    omega (arith, near)

pub set_bit-requires : goal.set_bit-requires
set_bit-requires c =
    let lent : Matrix = matrix_of c.args.shape c.args.list.now in
    let s = c in
    let l = c.loop-k in
    let e = c.column-e in
    let fits = place-fits (lent) s.args.z s.requires.0 s.requires.1 s.args.r l.k s.requires.2 (omega arith) e.result e.ensures.is in
    omega (arith, fits, l.invariant.long)

pub loop-k-preserved : goal.loop-k-preserved
loop-k-preserved c =
    let lent : Matrix = matrix_of c.args.shape c.args.list.now in
    let s = c in
    let l = c.loop-k in
    let e = c.column-e in
    let w = c.set_bit in
    let is = place_is (lent) s.args.z s.requires.0 s.requires.1 s.args.r l.k s.requires.2 (omega arith) e.result e.ensures.is in
    marked_step (lent) s.args.z s.requires.0 s.requires.1 s.args.r l.k s.requires.2 (omega arith) l.map w.new.w l.invariant
    (subst (SetBit l.map w.new.w) is w.ensures)

pub shape_of-map : goal.shape_of-map
shape_of-map c = c.loop-k.invariant.long ∙ sym c.requires.3.long

pub returns : goal.returns
returns c =
    let lent : Matrix = matrix_of c.args.shape c.args.list.now in
    let s = c in
    let l = c.loop-k in
    let e : l.k ≡ s.args.shape.rho = le_antisymm l.auto.k-end (omega arith) in
    marked_row (lent) s.args.z s.args.r l.map (rw e at l.invariant)
