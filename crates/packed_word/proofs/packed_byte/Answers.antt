use mathlib.Core.Path.{◌≡◌, ap, ◌∙◌}
use Prim.Native.Nat.{ℕ, ◌+◌, ◌*◌}
use native.Mathlib.Omega.{arith}
use Rattle.counting.specs.Places.{at}
use Rattle.packed_word.proofs.Packed.{below-bit, below-small}
use Rattle.packed_word.proofs.Stores.{eight, binary_of, binary-none, binary-more, binary-all, binary-room}
use Rattle.packed_word.proofs.packed_byte.Goals as goal

pub loop-i-init : goal.loop-i-init
loop-i-init c = binary-none (eight c.args.n (at c.args.bits.now) c.args.q)

pub with_bit-b-requires : goal.with_bit-b-requires
with_bit-b-requires c =
    let s = c in
    let l = c.loop-i in
    let z : ℕ → ℕ = at s.args.bits.now in (
      omega (arith, binary-room (eight s.args.n z s.args.q) l.i (λ k. below-bit s.args.n z s.requires.2 (8 * s.args.q + k)) (omega arith)),
      below-small s.args.n z s.requires.2 c.bit_or_zero.result _ c.bit_or_zero.ensures,
    )

pub loop-i-preserved : goal.loop-i-preserved
loop-i-preserved c =
    let a = c.args in
    let l = c.loop-i in
    let b = c.bit_or_zero in
    binary-more (eight a.n (at a.bits.now) a.q) l.i l.b b.result c.with_bit-b.result l.invariant b.ensures c.with_bit-b.ensures

pub returns : goal.returns
returns c =
    let a = c.args in
    let l = c.loop-i in
    let e : l.i ≡ 8 = omega arith in
    l.invariant ∙ ap (binary_of (eight a.n (at a.bits.now) a.q)) e ∙ binary-all a.n (at a.bits.now) a.q
