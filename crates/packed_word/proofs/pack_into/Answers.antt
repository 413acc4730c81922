use mathlib.Core.Path.{◌≡◌, sym, ap, ◌∙◌}
use Prim.Native.Nat.{ℕ}
use native.Mathlib.Omega.{arith}
use Rattle.counting.specs.Paper.Lists.{listed, over}
use Rattle.counting.specs.Places.{at}
use Rattle.counting.proofs.Writes.{over_none}
use Rattle.packed_word.specs.Paper.Packed.{bytes_for, packed_byte, pack}
use Rattle.packed_word.proofs.Stores.{over-next}
use Rattle.packed_word.proofs.pack_into.Goals as goal

pub loop-q-init : goal.loop-q-init
loop-q-init c = sym (over_none (packed_byte c.args.n (at c.args.bits.now)) c.args.w.now)

pub loop-q-preserved : goal.loop-q-preserved
loop-q-preserved c =
    let a = c.args in
    let l = c.loop-q in
    over-next (packed_byte a.n (at a.bits.now)) a.w.now l.w l.q c.packed_byte.result (omega (arith, c.requires.1)) c.packed_byte.ensures l.invariant

pub returns : goal.returns
unfolding pack
returns c =
    let a = c.args in
    let l = c.loop-q in
    let e : l.q ≡ bytes_for a.n = omega arith in
    l.invariant ∙ ap (λ (k : ℕ). over (listed k (packed_byte a.n (at a.bits.now))) a.w.now) e
