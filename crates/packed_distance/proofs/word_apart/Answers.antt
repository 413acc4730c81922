-- `packed_distance::word_apart` meets its contract: the ones of the words' difference are the places at which their bytes differ. Assumes nothing.
use mathlib.Core.Path.{ap₂, ◌∙◌}
use Prim.Native.Nat.{ℕ, ◌-◌}
use native.Mathlib.Omega.{arith}
use lib.Bits.{bit_xor}
use lib.Count.{ones}
use lib.ListN.{length, take, drop}
use Rattle.packed_distance.proofs.Parts.{apart-part}
use Rattle.packed_distance.proofs.Words.{word-apart}
use Rattle.packed_distance.proofs.word_apart.Goals as goal

pub returns : goal.returns
returns c =
    let s = c in
    let a = s.args.a.now in
    let b = s.args.b.now in
    let q = s.args.q in
    let x = c.eight.ensures in
    let y = c.eight-2.ensures in
    c.from.ensures
    ∙ c.ones_apart.ensures
    ∙ ap₂ (λ (m n : ℕ). ones (bit_xor m n)) x.value y.value
    ∙ word-apart (take (length a - q) (drop q a)) (take (length b - q) (drop q b)) 0 8 x.bytes y.bytes
    ∙ apart-part a b q 8 (length a - q) (length b - q) (omega (arith, s.requires.0)) (omega (arith, s.requires.1))
