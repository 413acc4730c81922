-- `sheet_bytes::unlike_rows` meets its contract: the first block row, which is not asked, is like itself. Assumes nothing.
use mathlib.Core.Path.{refl, ◌∙◌}
use mathlib.Core.Bool.{Bool}
use Prim.Native.Nat.{ℕ, ◌-◌}
use Rattle.std.proofs.Common.{rules, tests}
use Rattle.std.proofs.lemmas.Iterator.{YieldsList-from_range}
use Rattle.std.proofs.lemmas.Iterator.Search.{any_from_yields_List}
use Rattle.sheet_bytes.proofs.Ranges.{any_range_rest}
use Rattle.sheet_bytes.proofs.Faults.{row_is_unlike, unlike-is, unlike-first}
use Rattle.sheet_bytes.proofs.unlike_rows.Goals as goal

pub returns : goal.returns
returns c =
    let a = c.args in
    let t : ℕ → Bool = row_is_unlike a.bytes.now a.h.columns c.set_from-first.result in
    any_from_yields_List t _ _ _ c.any.ensures.ran (YieldsList-from_range 1 a.h.rows (a.h.rows - 1) refl refl) (λ x b q k. search (rules, tests))
    ∙ any_range_rest t a.h.rows (unlike-first c.requires.0 c.set_from-first.result c.set_from-first.ensures)
    ∙ unlike-is c.requires.0 c.set_from-first.result c.set_from-first.ensures
