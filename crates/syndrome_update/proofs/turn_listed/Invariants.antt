-- `syndrome_update::turn_listed`. The loop's invariant: the parities are turned over for the rows of the first listed columns.
use Rattle.syndrome_update.specs.Parities.{ParitiesTurned, listed_rows}
use Rattle.syndrome_update.proofs.turn_listed.Given as goal

abbrev pub invariant-loop-j : goal.invariant-loop-j
invariant-loop-j l = ParitiesTurned (listed_rows l.index l.n l.places l.j-index) l.initial.parity l.parity
