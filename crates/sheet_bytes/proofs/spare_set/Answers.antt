-- `sheet_bytes::spare_set` meets its contract: the search goes over the places behind the map's own. Assumes nothing.
use mathlib.Core.Path.{refl, sym, ap, ◌∙◌}
use mathlib.Core.Bool.{Bool}
use lib.Dec.{eqb}
use Rattle.std.proofs.Common.{rules, tests, ◌*◌, ◌-◌, ℕ}
use Rattle.std.proofs.lemmas.Iterator.{YieldsList-from_range}
use Rattle.std.proofs.lemmas.Iterator.Search.{any_from_yields_List}
use Rattle.counting.specs.Paper.Search.{any_below}
use Rattle.sheet.specs.Paper.Sheet.{map_bit}
use Rattle.sheet_bytes.proofs.Ranges.{any_from}
use Rattle.sheet_bytes.proofs.Faults.{spare_one, spare-is}
use Rattle.sheet_bytes.proofs.spare_set.Goals as goal

pub returns : goal.returns
returns c =
    let n : ℕ = c.args.h.rows * c.args.h.columns in
    let t : ℕ → Bool = λ p. eqb (map_bit c.args.bytes.now p) 1 in
    any_from_yields_List t _ _ _ c.any.ensures.ran (YieldsList-from_range n (8 * c.map_bytes.result) (8 * c.map_bytes.result - n) refl refl)
    (λ x b q k. search (rules, tests))
    ∙ any_from t (spare_one c.args.bytes.now n) n (8 * c.map_bytes.result - n) (λ i. refl)
    ∙ ap (λ (b : ℕ). any_below (spare_one c.args.bytes.now n) (8 * b - n)) c.map_bytes.ensures
    ∙ sym (spare-is c.requires.0)
