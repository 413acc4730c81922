-- `majority_planes::count`. The loop's invariant: the planes have the counts in the words before word 2 h.
use Prim.Native.Nat.{◌*◌}
use Rattle.majority_planes.specs.Adders.{PlanesTo}
use Rattle.majority_planes.proofs.count.Given as goal

abbrev pub invariant-loop-h : goal.invariant-loop-h
invariant-loop-h l = PlanesTo (2 * l.h) l.sets l.rows l.from (8 * l.eights) l.planes
