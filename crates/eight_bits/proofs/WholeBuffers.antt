-- A buffer just as long as what is written over it.
--   over-whole   == a list over a buffer just as long is that list
-- Assumes nothing.
use mathlib.Core.Path.{◌≡◌}
use mathlib.Core.List.{List}
use native.Mathlib.Omega.{arith}
use lib.IntN.{ℤ, pos}
use lib.ListN.{length}
use lib.Seq.{ext_get_or}
use Rattle.counting.specs.Paper.Lists.{over}
use Rattle.counting.proofs.Writes.{length_over, get_or-over-new}

pub over-whole : (new old : List ℤ) → length old ≡ length new → over new old ≡ new
over-whole new old e =
    let long : length (over new old) ≡ length new = omega (arith, length_over new old (omega arith)) in
    ext_get_or (pos 0) (over new old) new long (λ i l. get_or-over-new new old i (pos 0) (omega (arith, long)))
