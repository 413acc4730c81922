-- `syndrome_update::turn_checks`. The loop's invariant: the parities of the first rows of the part are turned over.
use Rattle.counting.specs.Places.{among}
use Rattle.syndrome_update.specs.Parities.{ParitiesTurned}
use Rattle.syndrome_update.proofs.turn_checks.Given as goal

abbrev pub invariant-loop-i : goal.invariant-loop-i
invariant-loop-i l = ParitiesTurned (among l.index l.from l.i-index) l.initial.parity l.parity
