-- `packed_distance::differing` meets its contract: two words differ at 1,024 places at most, so that the cast keeps the count. Assumes nothing.
use Prim.Native.Nat.{◌*◌}
use native.Mathlib.Omega.{arith}
use lib.ListN.{length}
use Rattle.packed_word.specs.Paper.Packed.{bit_at}
use Rattle.packed_word.proofs.Distances.{distance-le}
use Rattle.packed_distance.proofs.differing.Goals as goal

pub overflow_cast-result : goal.overflow_cast-result
overflow_cast-result c =
    let s = c in
    let a = s.args in
    omega (arith, s.requires.1, c.places_apart.ensures, distance-le (8 * length a.a.now) (bit_at a.a.now) (bit_at a.b.now))
