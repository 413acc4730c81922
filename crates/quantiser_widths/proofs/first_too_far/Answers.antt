-- `quantiser_widths::first_too_far` meets its contract: the library's search is the definition's. Assumes nothing.
use mathlib.Core.Path.{◌≡◌}
use mathlib.Core.Bool.{true, false}
use lib.Dec.{ltb}
use lib.IntN.{ℤ, pos, nat_abs}
use Rattle.std.proofs.Common.{rules, tests}
use Rattle.std.proofs.lemmas.Iterator.{IsFirst-from_position, YieldsList-from_slice}
use Rattle.quantiser_levels.proofs.Firsts.{first-position}
use Rattle.quantiser_widths.specs.Paper.Widths.{most_old, too_far}
use Rattle.quantiser_widths.proofs.first_too_far.Goals as goal

pub returns : goal.returns
unfolding too_far
returns c =
    let ls = c.args.levels.now in
    first-position (λ (r : ℤ). ltb most_old (nat_abs r)) ls (pos 0) c.position.result
    (IsFirst-from_position _ _ _ (λ (r : ℤ). ltb most_old (nat_abs r) ≡ true) (λ (r : ℤ). ltb most_old (nat_abs r) ≡ false) c.position.ensures.ran
    (YieldsList-from_slice ls (cc)) (λ x q k. search (rules, tests)) (λ x q k. search (rules, tests)))
