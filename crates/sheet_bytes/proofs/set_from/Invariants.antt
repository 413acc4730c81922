-- `sheet_bytes::set_from` meets its contract. The loop's invariant: `found` is the number of set places among the first `c`. Assumes nothing.
use mathlib.Core.Path.{◌≡◌}
use Prim.Native.Nat.{◌≤◌}
use Rattle.sheet_bytes.specs.Parts.{set_from}
use Rattle.sheet_bytes.proofs.set_from.Given as goal

abbrev pub invariant-loop-c : goal.invariant-loop-c
invariant-loop-c l = (l.c ≤ l.count) × (l.found ≡ set_from l.bytes l.from l.c)
