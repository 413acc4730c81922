-- `majority_columns::tally_columns`. The loop's invariant: the votes on the first `j` bits are written over the old ones.
use mathlib.Core.Path.{◌≡◌}
use Rattle.counting.specs.Paper.Lists.{listed, over}
use Rattle.counting.specs.Places.{at}
use Rattle.majority_columns.specs.ColumnVotes.{column_votes}
use Rattle.majority_columns.proofs.tally_columns.Given as goal

abbrev pub invariant-loop-j : goal.invariant-loop-j
invariant-loop-j l = l.votes ≡ over (listed l.j (column_votes l.index l.n (at l.parity))) l.initial.votes
