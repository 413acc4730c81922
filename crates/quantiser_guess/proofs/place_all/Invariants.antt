-- `quantiser_guess::place_all` meets its contract. The invariant: the bits, kept levels and marks of the first j samples are written over the old cells.
-- Assumes nothing.
use Prim.Native.Nat.{◌≤◌}
use Rattle.quantiser_guess.specs.Guess.{Laid}
use Rattle.quantiser_guess.proofs.place_all.Given as goal

abbrev pub invariant-loop-j : goal.invariant-loop-j
invariant-loop-j l = (l.j ≤ l.n) × Laid l.j l.middle l.bytes l.guess l.initial.bits l.bits l.initial.kept l.kept l.initial.marks l.marks
