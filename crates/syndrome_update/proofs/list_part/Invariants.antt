-- `syndrome_update::list_part`. The loop's invariant: the first `t` of `places` are the places below `j` at which the words differ.
use Rattle.counting.specs.Places.{at}
use Rattle.syndrome_update.specs.Parities.{differing, FlipsListed}
use Rattle.syndrome_update.proofs.list_part.Given as goal

abbrev pub invariant-loop-j : goal.invariant-loop-j
invariant-loop-j l = FlipsListed (differing (at l.before) (at l.bits)) l.j l.initial.places l.places l.t
