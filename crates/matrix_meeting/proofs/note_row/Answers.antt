use mathlib.Core.Path.{◌≡◌, refl, sym, ap, ◌∙◌}
use native.Mathlib.Omega.{arith}
use lib.ListN.{length}
use Rattle.matrix.specs.Paper.Shapes.{matrix_of}
use Rattle.matrix_meeting.specs.Marks.{bit_for, row_marked}
use Rattle.matrix_meeting.proofs.Words.{long-marked}
use Rattle.matrix_meeting.proofs.Marks.{row_more, noted_in, noted-out}
use Rattle.matrix_meeting.proofs.note_row.Goals as goal

pub returns-then-i-part : goal.returns-then-i-part
returns-then-i-part c =
    let a = c.args in
    sym (noted-out (matrix_of a.shape a.list.now) a.i a.seen.now a.part c.if-i-part.true)

pub loop-k-init : goal.loop-k-init
unfolding row_marked
loop-k-init c = record { long = refl; noted = refl }

pub loop-k-preserved : goal.loop-k-preserved
loop-k-preserved c =
    let a = c.args in
    let H = matrix_of a.shape a.list.now in
    let l = c.loop-k in
    let n = c.note in
    let col = c.column in
    record {
      long = ap length n.ensures ∙ long-marked (bit_for col.result a.i) l.seen ∙ l.invariant.long;
      noted = row_more H a.i a.seen.now l.k col.result l.seen n.new.seen col.ensures.is l.invariant.noted n.ensures;
    }

pub returns : goal.returns
returns c =
    let a = c.args in
    let H = matrix_of a.shape a.list.now in
    let l = c.loop-k in
    let end : l.k ≡ a.shape.rho = omega arith in
    rw end at l.invariant.noted ∙ sym (noted_in H a.i a.seen.now a.part c.if-i-part.false)
