-- `syndrome_update::list_flips`. The loop's invariant: the first `t` of `places` are the places below `8 q` at which the words differ.
use Prim.Native.Nat.{◌*◌}
use Rattle.counting.specs.Places.{at}
use Rattle.syndrome_update.specs.Parities.{differing, FlipsListed}
use Rattle.syndrome_update.proofs.list_flips.Given as goal

abbrev pub invariant-loop-q : goal.invariant-loop-q
invariant-loop-q l = FlipsListed (differing (at l.before) (at l.bits)) (8 * l.q) l.initial.places l.places l.t
