-- `sheet_rows::set_down`: the places of the block column are 0 or 1, and their sum is what is counted.
use mathlib.Core.Path.{◌∙◌}
use Prim.Native.Nat.{ℕ, ◌+◌, ◌*◌, ◌<◌}
use native.Mathlib.Omega.{arith}
use Rattle.std.proofs.Common.{rules, tests}
use Rattle.std.specs.List.{range_with_len}
use Rattle.std.proofs.iter.Serving.{serving}
use Rattle.std.proofs.lemmas.Iterator.{YieldsList-from_range, YieldsList-from_map}
use Rattle.std.proofs.lemmas.Iterator.Consumers.{sum_by_from_yields_List, fits_by_from_yields_list}
use Rattle.sheet.specs.Paper.Sheet.{map_bit}
use Rattle.sheet_rows.proofs.Lent.{place_small, place_there, down-is, down-few}
use Rattle.sheet_rows.proofs.set_down.Goals as goal

pub sum-requires-clause-can : goal.sum-requires-clause-can
sum-requires-clause-can c =
    let a = c.args in
    let small = λ (r : ℕ) (l : r < a.h.rows). place_small a.bytes.now c.requires.0 a.h c.requires.1 r a.c l c.requires.2 in
    let there = λ (r : ℕ) (l : r < a.h.rows). place_there a.bytes.now c.requires.0 a.h c.requires.1 r a.c l c.requires.2 in
    grind (serving, small, there)

pub sum-requires-clause-fits : goal.sum-requires-clause-fits
sum-requires-clause-fits c =
    let a = c.args in
    let f : ℕ → ℕ = λ r. map_bit a.bytes.now (r * a.h.columns + a.c) in
    fits_by_from_yields_list f (range_with_len 0 a.h.rows) c.map.result _
    (YieldsList-from_map _ f (YieldsList-from_range 0 a.h.rows a.h.rows (cc) (omega arith)) c.map.ensures.closure (λ x r q k. search (rules, tests)))
    (omega (arith, down-is a.bytes.now a.h c.requires.1 a.c, down-few a.bytes.now a.h c.requires.1 a.c, c.requires.1.rows_small))

pub returns : goal.returns
returns c =
    let a = c.args in
    let f : ℕ → ℕ = λ r. map_bit a.bytes.now (r * a.h.columns + a.c) in
    let e =
    sum_by_from_yields_List f (range_with_len 0 a.h.rows) c.map.result _ c.sum.ensures.ran
    (YieldsList-from_map _ f (YieldsList-from_range 0 a.h.rows a.h.rows (cc) (omega arith)) c.map.ensures.closure (λ x r q k. search (rules, tests)))
    ∙ down-is a.bytes.now a.h c.requires.1 a.c in
    (e, omega (arith, e, down-few a.bytes.now a.h c.requires.1 a.c))
