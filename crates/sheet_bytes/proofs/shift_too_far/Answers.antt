-- `sheet_bytes::shift_too_far` meets its contract: the search goes over the numbers behind the map. Assumes nothing.
use mathlib.Core.Path.{refl, ◌∙◌}
use mathlib.Core.Bool.{Bool}
use Prim.Native.Nat.{ℕ, ◌+◌, ◌-◌, ◌/◌}
use native.Mathlib.Omega.{arith}
use lib.ListN.{length}
use Rattle.std.proofs.Common.{rules, tests}
use Rattle.std.proofs.lemmas.Iterator.{YieldsList-from_range}
use Rattle.std.proofs.lemmas.Iterator.Search.{any_from_yields_List}
use Rattle.sheet_bytes.proofs.Ranges.{any_range}
use Rattle.sheet_bytes.proofs.Faults.{number_too_far, long-is, far-is}
use Rattle.sheet_bytes.proofs.shift_too_far.Goals as goal

pub overflow_sub-count : goal.overflow_sub-count
overflow_sub-count c = omega (arith, long-is c.requires.0 c.requires.1, c.map_bytes.ensures)

pub returns : goal.returns
returns c =
    let a = c.args in
    let shifts : ℕ = 6 + c.map_bytes.result in
    let count : ℕ = (length a.bytes.now - shifts) / 2 in
    let t : ℕ → Bool = number_too_far a.bytes.now a.h.size shifts in
    any_from_yields_List t _ _ _ c.any.ensures.ran (YieldsList-from_range 0 count count refl (omega arith)) (λ x b q k. search (rules, tests))
    ∙ any_range t count
    ∙ far-is c.requires.0 c.requires.1 c.map_bytes.result c.map_bytes.ensures
