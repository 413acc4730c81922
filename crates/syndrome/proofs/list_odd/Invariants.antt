-- `syndrome::list_odd`. The loop's invariant: the first `t` of `rows` are the rows below `i` whose parity is 1, each once.
use Rattle.counting.specs.Places.{at}
use Rattle.syndrome.specs.Places.{PlacesListed}
use Rattle.syndrome.proofs.list_odd.Given as goal

abbrev pub invariant-loop-i : goal.invariant-loop-i
invariant-loop-i l = PlacesListed (at l.parity) l.i l.initial.rows l.rows l.t
