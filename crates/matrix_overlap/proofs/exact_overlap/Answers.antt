use mathlib.Core.Path.{sym, ◌∙◌}
use native.Mathlib.Omega.{arith}
use Rattle.counting.proofs.Loops.{first_found}
use Rattle.matrix_overlap.proofs.exact_overlap.Goals as goal

pub returns-then-row_overlaps : goal.returns-then-row_overlaps
returns-then-row_overlaps c =
    let l = c.loop-i in
    (sym (first_found _ _ l.i l.invariant (sym c.row_overlaps.ensures ∙ c.if-row_overlaps.true) (omega arith)), omega arith)
