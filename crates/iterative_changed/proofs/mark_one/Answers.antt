-- `iterative_changed::mark_one` meets its contract. Assumes nothing.
use mathlib.Core.Path.{sym, ap, ◌∙◌}
use Rattle.quantiser_levels.proofs.Signs.{cell}
use mir.Val.{to_z, of_z}
use mir.ValLaws.{to_z-of_z}
use Rattle.iterative_changed.proofs.Marks.{mark-zero, mark-other}
use Rattle.iterative_changed.proofs.mark_one.Goals as goal

pub returns-then-r-eq0 : goal.returns-then-r-eq0
returns-then-r-eq0 c =
    let s = c in
    sym (mark-zero s.args.r s.args.z (sym (to_z-of_z cell s.args.r s.ranges.r) ∙ ap (to_z cell) c.if-r-eq0.true))

pub returns-else-r-eq0 : goal.returns-else-r-eq0
returns-else-r-eq0 c =
    let s = c in
    sym (mark-other s.args.r s.args.z (λ e. c.if-r-eq0.false (ap (of_z cell) e)))
