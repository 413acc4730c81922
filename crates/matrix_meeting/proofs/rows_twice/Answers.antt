use mathlib.Core.Path.{◌≡◌, refl, sym, ◌∙◌}
use mathlib.Core.Bool.{true, false}
use Prim.Native.Nat.{ℕ, ◌*◌}
use native.Mathlib.Omega.{arith}
use borrow.Author.Count.{below_more}
use Rattle.counting.proofs.Searches.{cases, never}
use Rattle.matrix.specs.Paper.Shapes.{matrix_of}
use Rattle.matrix_meeting.specs.Overlaps.{meets_part}
use Rattle.matrix_meeting.proofs.Marks.{bit-room, long-noted, marks-none, marks-more, once-clear, clear-once}
use Rattle.matrix_meeting.proofs.Overlaps.{meets-none, seen-some, seen_none}
use Rattle.matrix_meeting.proofs.rows_twice.Goals as goal

pub loop-i-init : goal.loop-i-init
loop-i-init c =
    let b = c in
    let H = matrix_of b.args.shape b.args.list.now in
    let first = b.args.part * 256 in
    record {
      long = refl;
      marks = marks-none H b.args.part first b.args.seen.now (omega arith) b.requires.3;
      none = λ x l. meets-none H b.args.part x (omega arith);
    }

pub returns-then-met_twice : goal.returns-then-met_twice
returns-then-met_twice c =
    let b = c in
    let H = matrix_of b.args.shape b.args.list.now in
    let l = c.loop-i in
    let here : meets_part H b.args.part l.i ≡ true =
    cases (meets_part H b.args.part l.i) (λ y. y) (λ n.
    let once = clear-once H b.requires.0 b.args.part l.i l.seen (omega arith) l.invariant.marks n in
    absurd (never (sym c.if-met_twice.true ∙ c.met_twice.ensures.none once))) in
    seen-some H b.args.part l.i b.args.seen.now l.seen (omega arith) l.invariant.long l.invariant.marks l.invariant.none here

pub loop-i-preserved : goal.loop-i-preserved
loop-i-preserved c =
    let b = c in
    let H = matrix_of b.args.shape b.args.list.now in
    let part = b.args.part in
    let l = c.loop-i in
    let n = c.note_row in
    let met = c.met_twice.ensures in
    let room = bit-room H l.i l.seen b.requires.0 (omega arith) (omega (arith, b.requires.2, l.invariant.long)) in
    record {
      long = long-noted H l.i l.seen part n.new.seen n.ensures ∙ l.invariant.long;
      marks = marks-more H part l.i l.seen room l.invariant.marks n.new.seen n.ensures;
      none = below_more (λ (x : ℕ). meets_part H part x ≡ false) l.i l.invariant.none
          (once-clear H b.requires.0 part l.i l.seen (omega arith) l.invariant.marks (met.once c.if-met_twice.false));
    }

pub returns : goal.returns
returns c =
    let b = c in
    let H = matrix_of b.args.shape b.args.list.now in
    let l = c.loop-i in
    let e : l.i ≡ b.args.shape.m = omega arith in
    seen_none H b.args.part b.args.seen.now l.seen l.invariant.long (rw e at l.invariant.marks) (rw e at l.invariant.none)
