-- `majority_bytes::lay` meets its contract. The invariant: the bytes of the first q words are written. Assumes nothing.
use mathlib.Core.Path.{◌≡◌}
use Prim.Native.Nat.{ℕ, ◌*◌, ◌/◌, ◌%◌, ◌<◌}
use lib.ListN.{length}
use Rattle.counting.specs.Places.{at}
use Rattle.majority_bytes.specs.Bytes.{byte_of}
use Rattle.majority_bytes.proofs.lay.Given as goal

abbrev pub invariant-loop-q : goal.invariant-loop-q
invariant-loop-q l =
    (length l.bytes ≡ 1024) × ((j : ℕ) → j < 8 * l.q → at l.bytes j ≡ byte_of (at l.sums (j / 8)) (j % 8))
