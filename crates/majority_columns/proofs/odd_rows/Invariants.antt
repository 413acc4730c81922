-- `majority_columns::odd_rows`. The loop's invariant: `v` is the sum of the parities at the first `k` rows of the part.
use mathlib.Core.Path.{◌≡◌}
use Rattle.counting.specs.Places.{at}
use Rattle.syndrome.specs.Places.{ones_at}
use Rattle.majority_columns.proofs.odd_rows.Given as goal

abbrev pub invariant-loop-k : goal.invariant-loop-k
invariant-loop-k l = l.v ≡ ones_at l.index l.from l.k (at l.parity)
