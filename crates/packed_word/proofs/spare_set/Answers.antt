-- `packed_word::spare_set` meets its contract: it asks the numbers from n to the end of the last byte. Assumes nothing.
use mathlib.Core.Path.{◌∙◌, ap}
use Rattle.std.proofs.Common.{rules, tests, eqb, ◌*◌, ◌-◌, ℕ}
use Rattle.std.proofs.lemmas.Iterator.{YieldsList-from_range}
use Rattle.std.proofs.lemmas.Iterator.Search.{any_from_yields_List}
use Rattle.packed_word.specs.Paper.Packed.{bit_at, bytes_for}
use Rattle.packed_word.proofs.Packed.{spare-asked}
use Rattle.packed_word.proofs.spare_set.Goals as goal

pub returns : goal.returns
returns c =
    let n = c.args.n in
    let w = c.args.w.now in
    any_from_yields_List (λ j. eqb (bit_at w j) 1) _ _ _ c.any.ensures.ran
    (YieldsList-from_range n _ (8 * bytes_for n - n) (cc) (ap (λ (x : ℕ). 8 * x - n) c.requires.0)) (λ x b q k. search (rules, tests))
    ∙ spare-asked n w
