use mathlib.Core.Path.{sym, ◌∙◌}
use native.Mathlib.Omega.{arith}
use Rattle.matrix.specs.Paper.Shapes.{matrix_of}
use Rattle.matrix_meeting.proofs.Overlaps.{part-some, parts_none}
use Rattle.matrix_meeting.proofs.pair_twice.Goals as goal

pub returns-then-part_twice : goal.returns-then-part_twice
returns-then-part_twice c =
    let a = c.args in
    sym (part-some (matrix_of a.shape a.list.now) c.loop-part.part (sym c.part_twice.ensures ∙ c.if-part_twice.true))

pub returns : goal.returns
returns c =
    let a = c.args in
    let l = c.loop-part in
    sym (parts_none (matrix_of a.shape a.list.now) l.part (omega arith) l.invariant)
