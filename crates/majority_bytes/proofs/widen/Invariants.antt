-- `majority_bytes::widen` meets its contract. The invariant: the words for the first s places are written. Assumes nothing.
use mathlib.Core.Path.{◌≡◌}
use Prim.Native.Nat.{ℕ, ◌*◌, ◌/◌, ◌%◌, ◌<◌}
use lib.ListN.{length}
use Rattle.counting.specs.Places.{at}
use Rattle.majority_planes.specs.Planes.{plane_value}
use Rattle.majority_bytes.specs.Bytes.{wide_of}
use Rattle.majority_bytes.proofs.widen.Given as goal

abbrev pub invariant-loop-s : goal.invariant-loop-s
invariant-loop-s l =
    (length l.sums ≡ 128) × ((k : ℕ) → k < 16 * l.s → at l.sums k ≡ wide_of (plane_value l.planes (k % 16)) (k / 16))
