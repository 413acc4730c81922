-- `syndrome_sets::turn_listed`. The loop's invariant: the copy is turned over by the first listed columns.
use mathlib.Core.Path.{◌≡◌}
use Rattle.counting.specs.Paper.Lists.{listed, over}
use Rattle.syndrome_sets.specs.Turns.{word_after}
use Rattle.syndrome_sets.proofs.turn_listed.Given as goal

abbrev pub invariant-loop-j : goal.invariant-loop-j
invariant-loop-j g l = l.p ≡ over (listed g.row.WORDS (word_after l.columns l.places l.j-index l.parity)) l.parity
