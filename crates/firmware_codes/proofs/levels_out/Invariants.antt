-- `firmware_codes::levels_out` meets its contract. The invariant: the bytes are as they were, but for those of the first j levels. Assumes nothing.
use mathlib.Core.Path.{◌≡◌}
use lib.Seq.{sets}
use Rattle.counting.specs.Paper.Joined.{joined}
use Rattle.firmware_codes.proofs.Levels.{bytes_at}
use Rattle.firmware_codes.proofs.levels_out.Given as goal

abbrev pub invariant-loop-j : goal.invariant-loop-j
invariant-loop-j l = l.bytes ≡ sets l.initial.bytes 0 (joined l.j (bytes_at l.levels))
