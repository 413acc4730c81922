-- `packed_distance::places_apart` meets its contract: the words' places and those of the last bytes are the runs' distance. Assumes nothing.
use mathlib.Core.Path.{◌≡◌}
use Prim.Native.Nat.{ℕ, ◌+◌, ◌*◌, ◌/◌}
use native.Mathlib.Omega.{arith}
use lib.ListN.{length}
use Rattle.packed_word.specs.Paper.Packed.{bit_at, distance}
use Rattle.packed_word.proofs.Distances.{distance-le}
use Rattle.packed_distance.proofs.Parts.{apart-long}
use Rattle.packed_distance.proofs.places_apart.Goals as goal

pub overflow_add-result : goal.overflow_add-result
overflow_add-result c =
    let total : let a = c.args in c.words_apart.result + c.last_apart.result ≡ distance (8 * length a.a.now) (bit_at a.a.now) (bit_at a.b.now) = let a = c.args in
    let n : ℕ = length a.a.now in
    omega (arith, c.words_apart.ensures, c.last_apart.ensures, apart-long a.a.now a.b.now (8 * (n / 8)) n (omega arith)) in
    let s = c in
    let a = s.args in
    omega (arith, s.requires.1, total, distance-le (8 * length a.a.now) (bit_at a.a.now) (bit_at a.b.now))

pub returns : goal.returns
returns c =
    let total : let a = c.args in c.words_apart.result + c.last_apart.result ≡ distance (8 * length a.a.now) (bit_at a.a.now) (bit_at a.b.now) = let a = c.args in
    let n : ℕ = length a.a.now in
    omega (arith, c.words_apart.ensures, c.last_apart.ensures, apart-long a.a.now a.b.now (8 * (n / 8)) n (omega arith)) in
    total
