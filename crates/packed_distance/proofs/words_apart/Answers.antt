use Prim.Native.Nat.{◌*◌}
use native.Mathlib.Omega.{arith}
use Rattle.packed_distance.proofs.Parts.{apart_none, apart-within, apart_words}
use Rattle.packed_distance.proofs.words_apart.Goals as goal

pub loop-i-init : goal.loop-i-init
loop-i-init c = apart_none c.args.a.now c.args.b.now 0

pub overflow_add-found : goal.overflow_add-found
overflow_add-found c =
    let s = c in
    let l = c.loop-i in
    omega (
      arith,
      s.requires.2,
      apart-within _ _ 0 (8 * l.i) l.found l.invariant,
      apart-within _ _ _ 8 c.word_apart-found.result c.word_apart-found.ensures,
    )

pub loop-i-preserved : goal.loop-i-preserved
loop-i-preserved c =
    let a = c.args in
    let l = c.loop-i in
    omega (arith, c.word_apart-found.ensures, apart_words a.a.now a.b.now l.i)
