-- `session_asking::any_far` meets its contract: it asks the first n levels. Assumes nothing.
use mathlib.Core.Path.{◌∙◌}
use Rattle.std.proofs.Common.{rules, tests, ltb, take, nat_abs}
use Rattle.std.proofs.lemmas.Iterator.{YieldsList-from_slice}
use Rattle.std.proofs.lemmas.Iterator.Search.{any_from_yields_List}
use Rattle.session_asking.proofs.Questions.{far-asked}
use Rattle.session_asking.proofs.any_far.Goals as goal

pub returns : goal.returns
returns c =
    let a = c.args in
    any_from_yields_List (λ r. ltb a.middle (nat_abs r)) _ _ _ c.any.ensures.ran (YieldsList-from_slice (take a.n a.levels.now) cc)
    (λ x b q k. search (rules, tests))
    ∙ far-asked a.middle a.n a.levels.now c.requires
