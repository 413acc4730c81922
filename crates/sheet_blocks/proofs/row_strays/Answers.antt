use mathlib.Core.Path.{◌≡◌, refl, ap, ◌∙◌}
use Prim.Native.Nat.{ℕ, ◌+◌, ◌*◌, ◌<◌}
use native.Mathlib.Nat.{le_antisymm, mod-lt}
use native.Mathlib.Omega.{arith}
use mathlib.Core.Bool.{not}
use lib.Dec.{eqb}
use mir.Val.{bool_byte}
use Rattle.counting.specs.Paper.Sum.{sum_below}
use Rattle.counting.specs.Places.{at}
use Rattle.matrix.specs.Paper.Code.{entry}
use Rattle.sheet.specs.Parts.{first_entry}
use Rattle.sheet_blocks.specs.Parts.{strays}
use Rattle.sheet_blocks.proofs.Blocks.{row_in, place_in, short, size-most, shift-near, start-low, turned-is, strays-most, stray-step}
use Rattle.sheet_blocks.proofs.row_strays.Goals as goal

pub overflow_mul-from : goal.overflow_mul-from
overflow_mul-from c =
    let s = c in
    let y = s.requires.0.ready in
    omega (arith, row_in y s.args.r s.args.i s.requires.0.here s.requires.1, y.accepted.sizes.m_most)

pub overflow_add-from : goal.overflow_add-from
overflow_add-from c =
    let s = c in
    let y = s.requires.0.ready in
    omega (arith, row_in y s.args.r s.args.i s.requires.0.here s.requires.1, y.accepted.sizes.m_most)

pub overflow_mul-from-2 : goal.overflow_mul-from-2
overflow_mul-from-2 c =
    let s = c in
    let y = s.requires.0.ready in
    omega (arith, place_in y s.args.r s.args.i 0 s.requires.0.here s.requires.1 (omega (arith, y.accepted.sizes.rho_least)), short y)

pub loop-k-init : goal.loop-k-init
unfolding sum_below
loop-k-init c = refl

pub overflow_add-count : goal.overflow_add-count
overflow_add-count c =
    let s = c in
    let y = s.requires.0.ready in
    omega (arith, place_in y s.args.r s.args.i c.loop-k.k s.requires.0.here s.requires.1 (omega arith), short y)

pub offset_bounds-list-from : goal.offset_bounds-list-from
offset_bounds-list-from c =
    let s = c in
    let y = s.requires.0.ready in
    omega (arith, place_in y s.args.r s.args.i c.loop-k.k s.requires.0.here s.requires.1 (omega arith), short y)

pub bounds-list-from : goal.bounds-list-from
bounds-list-from c =
    let s = c in
    place_in s.requires.0.ready s.args.r s.args.i c.loop-k.k s.requires.0.here s.requires.1 (omega arith)

pub offset_bounds-starts-k : goal.offset_bounds-starts-k
offset_bounds-starts-k c = omega (arith, c.requires.0.ready.accepted.sizes.rho_most)

pub bounds-starts-k : goal.bounds-starts-k
bounds-starts-k c = omega (arith, c.requires.0.ready.accepted.sizes.rho_most)

pub offset_bounds-shifts-k : goal.offset_bounds-shifts-k
offset_bounds-shifts-k c = omega (arith, c.requires.0.ready.accepted.sizes.rho_most)

pub bounds-shifts-k : goal.bounds-shifts-k
bounds-shifts-k c = omega (arith, c.requires.0.ready.accepted.sizes.rho_most)

pub turn-requires : goal.turn-requires
turn-requires c =
    let s = c in
    (shift-near s.requires.0 c.loop-k.k (omega arith), omega (arith, s.requires.1, s.requires.0.ready.filled.some))

pub overflow_add-count-in-loop-k : goal.overflow_add-count-in-loop-k
overflow_add-count-in-loop-k c =
    let s = c in
    let l = c.loop-k in
    let t = s.requires.0 in
    let low : c.turn.result < s.args.z = rw c.turn.ensures (mod-lt _ t.ready.filled.some) in
    omega (
      arith,
      start-low t l.k (omega arith),
      low,
      size-most t.ready,
    )

pub overflow_add-count-in-loop-k-2 : goal.overflow_add-count-in-loop-k-2
unfolding first_entry entry
overflow_add-count-in-loop-k-2 c =
    let counted : let a = c.args in let l = c.loop-k in l.count + bool_byte (not (eqb (at a.list.now ((a.r * a.z + a.i) * a.shape.rho + l.k)) (at a.starts.now l.k + c.turn.result))) ≡ sum_below (l.k + 1) (strays a.list.now a.shape.rho a.z a.r a.i) = let s = c in
    let a = s.args in
    let l = c.loop-k in
    let p = s.requires.0.split in
    stray-step a.list.now a.shape.rho a.z a.r a.i l.k l.count (at a.starts.now l.k + c.turn.result)
    (turned-is a.z (at a.list.now (a.r * a.z * a.shape.rho + l.k)) a.i (at a.starts.now l.k) (at a.shifts.now l.k) c.turn.result
    (p.start l.k (omega arith)) (p.shift l.k (omega arith)) c.turn.ensures) l.invariant in
    let s = c in
    let a = s.args in
    let l = c.loop-k in
    omega (
      arith,
      counted,
      strays-most a.list.now a.shape.rho a.z a.r a.i (l.k + 1),
      s.requires.0.ready.accepted.sizes.rho_most,
    )

pub loop-k-preserved : goal.loop-k-preserved
unfolding first_entry entry
loop-k-preserved c =
    let counted : let a = c.args in let l = c.loop-k in l.count + bool_byte (not (eqb (at a.list.now ((a.r * a.z + a.i) * a.shape.rho + l.k)) (at a.starts.now l.k + c.turn.result))) ≡ sum_below (l.k + 1) (strays a.list.now a.shape.rho a.z a.r a.i) = let s = c in
    let a = s.args in
    let l = c.loop-k in
    let p = s.requires.0.split in
    stray-step a.list.now a.shape.rho a.z a.r a.i l.k l.count (at a.starts.now l.k + c.turn.result)
    (turned-is a.z (at a.list.now (a.r * a.z * a.shape.rho + l.k)) a.i (at a.starts.now l.k) (at a.shifts.now l.k) c.turn.result
    (p.start l.k (omega arith)) (p.shift l.k (omega arith)) c.turn.ensures) l.invariant in
    counted

pub returns : goal.returns
returns c =
    let a = c.args in
    let l = c.loop-k in
    l.invariant ∙ ap (λ (k : ℕ). sum_below k (strays a.list.now a.shape.rho a.z a.r a.i)) (le_antisymm l.auto.k-end (omega arith))
