-- `syndrome_sets::apart`. The loop's invariant: `t` counts the bits in which the first `w` words differ.
use mathlib.Core.Path.{◌≡◌}
use lib.Bits.{bit_xor}
use lib.Count.{ones}
use Rattle.counting.specs.Paper.Sum.{sum_below}
use Rattle.counting.specs.Places.{at}
use Rattle.syndrome_sets.specs.Counts.{word_apart}
use Rattle.syndrome_sets.proofs.apart.Given as goal

abbrev pub invariant-loop-w : goal.invariant-loop-w
invariant-loop-w l =
    (l.t ≡ sum_below l.w (λ v. ones (bit_xor (at l.a v) (at l.b v)))) × (l.t ≡ sum_below l.w (λ v. word_apart (at l.a v) (at l.b v)))
