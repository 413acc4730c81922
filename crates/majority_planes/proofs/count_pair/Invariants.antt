-- `majority_planes::count_pair`. The loop's invariant: the digits are those of the counts of the first 8 q listed sets, in both words.
use mathlib.Core.Path.{◌≡◌}
use Prim.Native.Nat.{ℕ, ◌+◌, ◌*◌, ◌<◌}
use Rattle.majority_planes.specs.Planes.{six_digits, sets_count}
use Rattle.majority_planes.proofs.count_pair.Given as goal

abbrev pub invariant-loop-q : goal.invariant-loop-q
invariant-loop-q l =
    ((t : ℕ) → t < 64 → six_digits l.p.a l.p.b l.p.c l.p.d l.p.e l.p.f t ≡ sets_count l.sets l.rows l.from (8 * l.q) l.w t)
    × ((t : ℕ) → t < 64 → six_digits l.r.a l.r.b l.r.c l.r.d l.r.e l.r.f t ≡ sets_count l.sets l.rows l.from (8 * l.q) (l.w + 1) t)
