-- `quantiser_guess::all_fit` meets its contract. The invariant: the table confirms each of the first j guesses exactly where the flag is set.
-- Assumes nothing.
use mathlib.Core.Path.{◌≡◌}
use mathlib.Core.Bool.{not}
use Prim.Native.Nat.{◌≤◌}
use Rattle.counting.specs.Paper.Search.{any_below}
use Rattle.quantiser_guess.specs.Guess.{misfit}
use Rattle.quantiser_guess.proofs.all_fit.Given as goal

abbrev pub invariant-loop-j : goal.invariant-loop-j
invariant-loop-j l = (l.j ≤ l.n) × (l.ok ≡ not (any_below (misfit l.table l.bytes l.guess) l.j))
