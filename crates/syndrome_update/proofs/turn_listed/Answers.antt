use native.Mathlib.Omega.{arith}
use lib.Seq.{get_or-take}
use Rattle.syndrome_update.proofs.Turns.{listed-none, listed-step}
use Rattle.syndrome_update.proofs.turn_listed.Goals as goal

pub loop-j-init : goal.loop-j-init
loop-j-init c = listed-none c.args.parity.now c.requires.3 c.args.index.now c.args.n c.args.places.now

pub loop-j-preserved : goal.loop-j-preserved
loop-j-preserved c =
    let a = c.args in
    let o = c.loop-j in
    let e = get_or-take a.count a.places.now o.j-index 0 (omega arith) in
    listed-step a.parity.now c.requires.3 a.index.now a.n a.places.now o.j-index o.parity c.turn_column.new.parity o.invariant
    (rw e at c.turn_column.ensures)
