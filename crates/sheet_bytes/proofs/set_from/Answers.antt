use mathlib.Core.Path.{◌≡◌, ap, ◌∙◌}
use Prim.Native.Nat.{◌+◌}
use native.Mathlib.Nat.{le_antisymm}
use native.Mathlib.Omega.{arith}
use Rattle.sheet_bytes.specs.Parts.{set_from}
use Rattle.sheet_bytes.proofs.Maps.{from-none, from_more, from-few}
use Rattle.sheet_bytes.proofs.set_from.Goals as goal

pub loop-c-init : goal.loop-c-init
loop-c-init c = (omega arith, from-none c.args.bytes.now c.args.from)

pub map_bit-found-requires : goal.map_bit-found-requires
map_bit-found-requires c = (omega arith, omega arith)

pub overflow_add-found : goal.overflow_add-found
overflow_add-found c =
    let more : let a = c.args in let l = c.loop-c in l.found + c.map_bit-found.result ≡ set_from a.bytes.now a.from (l.c + 1) = let a = c.args in
    let l = c.loop-c in
    from_more a.bytes.now a.from l.c l.found c.map_bit-found.result l.invariant.1 c.map_bit-found.ensures in
    let s = c in
    let l = c.loop-c in
    omega (arith, from-few s.args.bytes.now s.args.from (l.c + 1), more)

pub loop-c-preserved : goal.loop-c-preserved
loop-c-preserved c =
    let more : let a = c.args in let l = c.loop-c in l.found + c.map_bit-found.result ≡ set_from a.bytes.now a.from (l.c + 1) = let a = c.args in
    let l = c.loop-c in
    from_more a.bytes.now a.from l.c l.found c.map_bit-found.result l.invariant.1 c.map_bit-found.ensures in
    (omega arith, more)

pub returns : goal.returns
returns c =
    let a = c.args in
    let l = c.loop-c in
    l.invariant.1 ∙ ap (set_from a.bytes.now a.from) (le_antisymm l.invariant.0 c.loop-c-test.false)
