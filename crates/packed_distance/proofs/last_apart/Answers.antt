use mathlib.Core.Path.{◌≡◌, ap, ◌∙◌}
use Prim.Native.Nat.{◌-◌}
use native.Mathlib.Omega.{arith}
use lib.ListN.{get_or}
use Rattle.packed_distance.specs.Parts.{apart_in}
use Rattle.packed_distance.proofs.Counts.{byte-apart, apart-few}
use Rattle.packed_distance.proofs.Parts.{apart_none, apart-within, apart-bytes}
use Rattle.packed_distance.proofs.last_apart.Goals as goal

pub loop-q-init : goal.loop-q-init
loop-q-init c =
    let a = c.args in
    let e : 0 ≡ a.from - a.from = omega arith in
    apart_none a.a.now a.b.now a.from ∙ ap (apart_in a.a.now a.b.now a.from) e

pub overflow_add-found : goal.overflow_add-found
overflow_add-found c =
    let q = c.loop-q.q in
    let d = byte-apart (get_or c.args.a.now q 0) (get_or c.args.b.now q 0) (c.type_inv.a q).fits (c.type_inv.b q).fits in
    omega (arith, c.requires.2, apart-within _ _ c.args.from (q - c.args.from) c.loop-q.found c.loop-q.invariant, apart-few _ _ _ d)

pub loop-q-preserved : goal.loop-q-preserved
loop-q-preserved c =
    let q = c.loop-q.q in
    let d = byte-apart (get_or c.args.a.now q 0) (get_or c.args.b.now q 0) (c.type_inv.a q).fits (c.type_inv.b q).fits in
    omega (arith, d, apart-bytes c.args.a.now c.args.b.now c.args.from q c.loop-q.auto.q)
