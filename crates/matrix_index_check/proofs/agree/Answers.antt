-- `matrix_index_check::agree`: each question is asked of a matrix that has passed those before it.
use mathlib.Core.Bool.{not}
use mathlib.Core.Path.{ap}
use mathlib.Core.Path.{sym, ◌∙◌}
use borrow.Author.Tests.{not-true, not-false}
use Rattle.counting.proofs.Searches.{never}
use Rattle.matrix.specs.Paper.Code.{Matrix}
use Rattle.matrix.specs.Paper.Shapes.{matrix_of}
use Rattle.matrix.specs.Ordered.{Sized, Ordered}
use Rattle.matrix_order.proofs.Order.{in-order-clear}
use Rattle.matrix_index_replay.specs.Replay.{Own}
use Rattle.matrix_index_replay.proofs.Numbers.{size_room}
use Rattle.matrix_index_check.proofs.Answers.{out_of_order}
use Rattle.matrix_weights.proofs.Weights.{counted-fit, fit-counted}
use Rattle.matrix_index_check.specs.Agree.{gaps_in}
use Rattle.matrix_index_check.proofs.Passing.{own-rise, own-weighed}
use Rattle.matrix_index_check.proofs.agree.Goals as goal

pub returns-then-not-fits : goal.returns-then-not-fits
returns-then-not-fits c =
    record {
      so = λ e. absurd (never (sym e));
      not_so = λ e o x w. c.fits.ensures.not_so (not-true _ (ap not c.if-not-fits.true)) o.sized;
    }

pub in_order-requires : goal.in_order-requires
in_order-requires c =
    let lent : Matrix = matrix_of c.args.shape c.args.list.now in
    let sized : Sized (lent) = c.fits.ensures.so (not-false _ (ap not c.if-not-fits.false)) in
    sized

pub returns-then-not-in_order : goal.returns-then-not-in_order
returns-then-not-in_order c =
    let lent : Matrix = matrix_of c.args.shape c.args.list.now in
    record {
      so = λ e. absurd (never (sym e));
      not_so = λ e o x w.
          out_of_order (lent) (sym c.in_order.ensures ∙ not-true _ (ap not c.if-not-in_order.true)) o;
    }

pub replay-requires : goal.replay-requires
replay-requires c =
    let lent : Matrix = matrix_of c.args.shape c.args.list.now in
    let sized : Sized (lent) = c.fits.ensures.so (not-false _ (ap not c.if-not-fits.false)) in
    let ordered : Ordered (lent) = record {
      sized = sized;
      clear = in-order-clear (lent) (sym c.in_order.ensures ∙ not-false _ (ap not c.if-not-in_order.false));
    } in
    ordered

pub returns-then-not-replay : goal.returns-then-not-replay
returns-then-not-replay c = record { so = λ e. absurd (never (sym e)); not_so = λ e o x w. c.replay.ensures.not_so (not-true _ (ap not c.if-not-replay.true)) x }

pub weights_pass-requires : goal.weights_pass-requires
weights_pass-requires c =
    let lent : Matrix = matrix_of c.args.shape c.args.list.now in
    let own : Own (lent) c.args.index.now = c.replay.ensures.so (not-false _ (ap not c.if-not-replay.false)) in
    let sized : Sized (lent) = c.fits.ensures.so (not-false _ (ap not c.if-not-fits.false)) in
    let ordered : Ordered (lent) = record {
      sized = sized;
      clear = in-order-clear (lent) (sym c.in_order.ensures ∙ not-false _ (ap not c.if-not-in_order.false));
    } in
    let s = c in
    let o = own in (
      (sized).sizes.n_most,
      (size_room (lent) s.args.index.now (ordered) o.long).0,
      own-rise (lent) s.args.index.now o,
    )

pub returns : goal.returns
returns c =
    let lent : Matrix = matrix_of c.args.shape c.args.list.now in
    let own : Own (lent) c.args.index.now = c.replay.ensures.so (not-false _ (ap not c.if-not-replay.false)) in
    let sized : Sized (lent) = c.fits.ensures.so (not-false _ (ap not c.if-not-fits.false)) in
    let ordered : Ordered (lent) = record {
      sized = sized;
      clear = in-order-clear (lent) (sym c.in_order.ensures ∙ not-false _ (ap not c.if-not-in_order.false));
    } in
    let s = c in
    let o = own in
    let e = c.weights_pass.ensures in
    let v = gaps_in (lent).n s.args.index.now in
    let w = own-weighed (lent) s.args.index.now o in
    record {
      so = λ y. (ordered, o, counted-fit (lent) v w (sym e ∙ y));
      not_so = λ n _ _ h. fit-counted (lent) v w (sym e ∙ n) h;
    }
