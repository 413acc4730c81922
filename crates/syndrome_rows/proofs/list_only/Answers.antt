use Prim.Native.Nat.{◌+◌, ◌*◌}
use mathlib.Core.Path.{◌≡◌}
use native.Mathlib.Omega.{arith}
use Rattle.syndrome.proofs.Lists.{places-none}
use Rattle.syndrome_words.specs.Sets.{only_in}
use Rattle.syndrome_rows.proofs.Only.{only-bit, only-past, only-word, only-fit, only_word, places-word, places-within}
use Rattle.syndrome_rows.proofs.list_only.Goals as goal

pub loop-w-init : goal.loop-w-init
loop-w-init c = places-none (only_in c.args.a.now c.args.b.now) c.args.rows.now (omega arith)

pub list_word-t-requires : goal.list_word-t-requires
list_word-t-requires c =
    let o = c.loop-w in
    only-fit c.args.a.now c.args.b.now c.args.m o.w c.requires.0 (omega (arith, c.requires.0)) c.requires.1 o.rows o.t o.invariant

pub loop-w-preserved : goal.loop-w-preserved
loop-w-preserved c =
    let o = c.loop-w in
    let a = c.args.a.now in
    let b = c.args.b.now in
    let fit = only-fit a b c.args.m o.w c.requires.0 (omega (arith, c.requires.0)) c.requires.1 o.rows o.t o.invariant in
    let next : 64 * (o.w + 1) ≡ 64 * o.w + 64 = omega arith in
    rw next
    (places-word (only_in a b) (only_word a b o.w) (64 * o.w) o.t o.rows fit o.invariant (only-word a b o.w) _ _ c.list_word-t.ensures)

pub returns : goal.returns
returns c =
    let o = c.loop-w in
    let a = c.args.a.now in
    let b = c.args.b.now in
    places-within (only_in a b) c.args.m (64 * o.w) o.rows o.t o.invariant (omega arith) (only-bit a b)
    (λ i h g. only-past a b c.args.m c.requires.1 i h (omega (arith, c.requires.0)))
