-- `matrix_check::fits` meets its contract. Assumes nothing.
use mathlib.Core.Bool.{not}
use mathlib.Core.Path.{ap}
use mathlib.Core.Path.{sym, ◌∙◌}
use Prim.Native.Nat.{◌*◌}
use native.Mathlib.Omega.{arith}
use borrow.Author.Tests.{eqb-true, eqb-false, not-true, not-false}
use lib.ListN.{length}
use Rattle.counting.proofs.Searches.{never}
use Rattle.matrix.specs.Paper.Code.{Matrix}
use Rattle.matrix.specs.Paper.Check.{sizes_fit}
use Rattle.matrix.specs.Paper.PlainCheck.{Sizes}
use Rattle.matrix.specs.Paper.Shapes.{matrix_of}
use Rattle.matrix.proofs.Rows.{few-entries}
use Rattle.matrix.proofs.PlainCheck.{sizes-say, sizes-fit}
use Rattle.matrix_check.proofs.fits.Goals as goal

pub returns-then-not-sizes_fit : goal.returns-then-not-sizes_fit
unfolding sizes_fit
returns-then-not-sizes_fit c =
    let lent : Matrix = matrix_of c.args.shape c.args.list.now in
    let b = c in
    record {
      so = λ e. absurd (never (sym e));
      not_so = λ _ z. never (sym (sizes-fit (lent) z.sizes) ∙ sym c.sizes_fit.ensures ∙ not-true _ (ap not c.if-not-sizes_fit.true));
    }

pub overflow_mul-result : goal.overflow_mul-result
unfolding sizes_fit
overflow_mul-result c =
    let lent : Matrix = matrix_of c.args.shape c.args.list.now in
    let ranged : Sizes (lent) = sizes-say (lent) (sym c.sizes_fit.ensures ∙ not-false _ (ap not c.if-not-sizes_fit.false)) in
    let b = c in
    omega (arith, few-entries (lent) (ranged))

pub returns : goal.returns
unfolding sizes_fit
returns c =
    let lent : Matrix = matrix_of c.args.shape c.args.list.now in
    let ranged : Sizes (lent) = sizes-say (lent) (sym c.sizes_fit.ensures ∙ not-false _ (ap not c.if-not-sizes_fit.false)) in
    let H = lent in
    record {
      so = λ e. record { sizes = ranged; whole = eqb-true (length H.list) (H.m * H.rho) e };
      not_so = λ e z. eqb-false (length H.list) (H.m * H.rho) e z.whole;
    }
