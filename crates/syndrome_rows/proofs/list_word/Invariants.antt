-- `syndrome_rows::list_word`. The loop's invariant: the ones of x below a place are listed, and y has the others. Its lowest one is taken next.
use Prim.Native.Nat.{◌<◌, ◌^◌}
use Rattle.syndrome_rows.proofs.Listing.{Listing}
use Rattle.syndrome_rows.proofs.list_word.Given as goal

abbrev pub invariant-loop-y : goal.invariant-loop-y
invariant-loop-y l = (l.y < 2 ^ 64) × Listing l.x l.first l.t-2 l.initial.rows l.y l.rows l.t

abbrev pub decreases-loop-y : goal.decreases-loop-y
decreases-loop-y l = l.y
