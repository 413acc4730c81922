-- `quantiser_guess::guess_all` meets its contract. The invariant: the first j guesses are below 2,048. Assumes nothing.
use Prim.Native.Nat.{◌≤◌}
use Rattle.quantiser_guess.specs.Guess.{Guessed}
use Rattle.quantiser_guess.proofs.guess_all.Given as goal

abbrev pub invariant-loop-j : goal.invariant-loop-j
invariant-loop-j l = (l.j ≤ l.n) × Guessed l.j l.guess
