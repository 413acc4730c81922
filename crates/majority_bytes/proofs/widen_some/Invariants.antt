-- `majority_bytes::widen_some` meets its contract. The invariant: the first w words for this place are written behind those of the places before. Assumes nothing.
use mathlib.Core.Path.{◌≡◌}
use Prim.Native.Nat.{ℕ, ◌+◌, ◌*◌, ◌/◌, ◌%◌, ◌<◌}
use lib.ListN.{length}
use Rattle.counting.specs.Places.{at}
use Rattle.majority_planes.specs.Planes.{plane_value}
use Rattle.majority_bytes.specs.Bytes.{wide_of}
use Rattle.majority_bytes.proofs.widen_some.Given as goal

abbrev pub invariant-loop-w : goal.invariant-loop-w
invariant-loop-w l =
    (length l.sums ≡ 128) × ((k : ℕ) → k < 16 * l.s + l.w → at l.sums k ≡ wide_of (plane_value l.planes (k % 16)) (k / 16))
