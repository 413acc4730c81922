-- `syndrome_update::list_eight`: eight places at which the words agree are passed over.
use mathlib.Core.Path.{sym, ◌∙◌}
use Prim.Native.Nat.{◌+◌, ◌-◌}
use native.Mathlib.Omega.{arith}
use Rattle.counting.specs.Places.{at}
use Rattle.syndrome_update.proofs.Flips.{chunks-same, flips-skip}
use Rattle.syndrome_update.proofs.list_eight.Goals as goal

pub returns-then-eq : goal.returns-then-eq
returns-then-eq c =
    let a = c.args.before.now in
    let b = c.args.bits.now in
    let j = c.args.j in
    flips-skip (at a) (at b) j 8 c.args.places.now c.args.t c.requires.3
    (chunks-same a b j (j + 8 - j) j (j + 8 - j) 8 c.first_chunk.result c.first_chunk-2.result (omega arith) (omega arith) (omega arith) (omega arith)
    c.first_chunk.ensures.cases c.first_chunk-2.ensures.cases (sym c.eq.ensures ∙ c.if-eq.true))
