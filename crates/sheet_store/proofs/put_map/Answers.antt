use Prim.Native.Nat.{ℕ, ◌/◌}
use mathlib.Core.Path.{◌≡◌, ap, sym, ◌∙◌}
use native.Mathlib.Nat.{le_antisymm}
use native.Mathlib.Omega.{arith}
use lib.ListN.{replicate}
use Rattle.packed_word.specs.Paper.Packed.{Bytes}
use Rattle.matrix.specs.Paper.Code.{Matrix}
use Rattle.matrix.specs.Paper.Shapes.{matrix_of}
use Rattle.sheet_store.proofs.Marking.{marked-none, marked_all}
use Rattle.sheet_store.proofs.put_map.Goals as goal

pub overflow_cast-rows : goal.overflow_cast-rows
overflow_cast-rows c = omega (arith, c.requires.0.sizes.m_most)

pub nonzero_div-rows : goal.nonzero_div-rows
nonzero_div-rows c = c.requires.1.some

pub loop-r-init : goal.loop-r-init
unfolding Bytes
loop-r-init c =
    let lent : Matrix = matrix_of c.args.shape c.args.list.now in
    let s = c in
    let w = c.fill in (
      λ q. omega (arith, c.type_inv.map q),
      marked-none (lent) s.args.z w.new.self (w.ensures.after (λ y e. e) ∙ ap (λ (k : ℕ). replicate k 0) s.requires.2),
    )

pub mark_row-requires : goal.mark_row-requires
mark_row-requires c =
    let s = c in
    let l = c.loop-r in
    (s.requires.0, s.requires.1, omega arith, l.invariant.1)

pub loop-r-preserved : goal.loop-r-preserved
unfolding Bytes
loop-r-preserved c = (λ q. omega (arith, c.type_inv.map q), c.mark_row.ensures)

pub shape_of-map : goal.shape_of-map
shape_of-map c = c.loop-r.invariant.1.long ∙ sym c.requires.2

pub returns : goal.returns
returns c =
    let lent : Matrix = matrix_of c.args.shape c.args.list.now in
    let s = c in
    let l = c.loop-r in
    let e : l.r ≡ s.args.shape.m / s.args.z = le_antisymm l.auto.r-end (omega arith) in
    marked_all (lent) s.args.z s.requires.0 s.requires.1 l.map l.invariant.0 (rw e at l.invariant.1)
