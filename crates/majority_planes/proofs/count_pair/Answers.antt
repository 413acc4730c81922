use mathlib.Core.Path.{sym, ◌∙◌}
use Prim.Native.Nat.{◌+◌}
use native.Mathlib.Omega.{arith}
use Rattle.majority_planes.proofs.Counts.{none-six, count_none, count_next}
use Rattle.majority_planes.proofs.count_pair.Goals as goal

pub loop-q-init : goal.loop-q-init
loop-q-init c =
    let a = c.args in
    let d = c.default-none.result in
    let z = c.default-none.ensures in
    let none = none-six d.a d.b d.c d.d d.e d.f z.0 z.1.0 z.1.1.0 z.1.1.1.0 z.1.1.1.1.0 z.1.1.1.1.1 in
    (λ t h. none t ∙ sym (count_none a.sets.now a.rows.now a.from a.w t), λ t h. none t ∙ sym (count_none a.sets.now a.rows.now a.from (a.w + 1) t))

pub loop-q-preserved : goal.loop-q-preserved
loop-q-preserved c =
    let s = c in
    let a = s.args in
    let o = c.loop-q in (
      count_next a.sets.now a.rows.now a.from o.q a.eights a.w s.requires.3 (omega (arith, s.requires.1)) (omega arith) _ _ o.invariant.0
          c.add_listed-p.ensures,
      count_next a.sets.now a.rows.now a.from o.q a.eights (a.w + 1) s.requires.3 (omega (arith, s.requires.1)) (omega arith) _ _ o.invariant.1
          c.add_listed-r.ensures,
    )
