-- `quantiser::first_not_finite` meets its contract: the library's search is the definition's. Assumes nothing.
use mathlib.Core.Path.{◌≡◌}
use mathlib.Core.Bool.{true, false, not}
use lib.Ieee.{Float, nan}
use lib.Ieee.Scale.{finite}
use Rattle.std.proofs.Common.{rules, tests}
use Rattle.std.proofs.lemmas.Iterator.{IsFirst-from_position, YieldsList-from_slice}
use Rattle.quantiser_levels.specs.Paper.Samples.{not_finite}
use Rattle.quantiser_levels.proofs.Firsts.{first-position}
use Rattle.quantiser.proofs.first_not_finite.Goals as goal

pub returns : goal.returns
unfolding not_finite
returns c =
    let xs = c.args.samples.now in
    first-position (λ (x : Float). not (finite x)) xs nan c.position.result
    (IsFirst-from_position _ _ _ (λ (x : Float). not (finite x) ≡ true) (λ (x : Float). not (finite x) ≡ false) c.position.ensures.ran
    (YieldsList-from_slice xs (cc)) (λ x q k. search (rules, tests)) (λ x q k. search (rules, tests)))
