-- `matrix_check::check` meets its contract. Assumes nothing.
use mathlib.Core.Bool.{not}
use mathlib.Core.Path.{ap}
use mathlib.Core.Path.{sym, ◌∙◌}
use native.Mathlib.Omega.{arith}
use borrow.Author.Tests.{not-true, not-false}
use Rattle.counting.proofs.Searches.{never}
use Rattle.matrix.specs.Paper.Code.{Matrix}
use Rattle.matrix.specs.Paper.Check.{sizes_fit}
use Rattle.matrix.specs.Paper.PlainCheck.{Sizes, sizes_out, length_wrong}
use Rattle.matrix.specs.Paper.Shapes.{matrix_of}
use Rattle.matrix.proofs.Rows.{few-entries}
use Rattle.matrix.proofs.PlainCheck.{sizes-say, sizes-fit, reads_only}
use Rattle.matrix_check.proofs.check.Goals as goal

pub returns-then-not-sizes_fit : goal.returns-then-not-sizes_fit
unfolding sizes_fit
returns-then-not-sizes_fit c =
    let lent : Matrix = matrix_of c.args.shape c.args.list.now in
    let b = c in
    reads_only (lent) _ (sizes_out (λ s. never (sym (sizes-fit (lent) s) ∙ sym c.sizes_fit.ensures ∙ not-true _ (ap not c.if-not-sizes_fit.true))))

pub overflow_mul-m : goal.overflow_mul-m
unfolding sizes_fit
overflow_mul-m c =
    let lent : Matrix = matrix_of c.args.shape c.args.list.now in
    let fits : Sizes (lent) = sizes-say (lent) (sym c.sizes_fit.ensures ∙ not-false _ (ap not c.if-not-sizes_fit.false)) in
    let b = c in
    omega (arith, few-entries (lent) (fits))

pub returns-then-list-m : goal.returns-then-list-m
unfolding sizes_fit
returns-then-list-m c =
    let lent : Matrix = matrix_of c.args.shape c.args.list.now in
    let fits : Sizes (lent) = sizes-say (lent) (sym c.sizes_fit.ensures ∙ not-false _ (ap not c.if-not-sizes_fit.false)) in
    let b = c in
    reads_only (lent) _ (length_wrong (fits) (λ e. omega (arith, e, c.if-list-m.true)))

pub check_list-requires : goal.check_list-requires
unfolding sizes_fit
check_list-requires c =
    let lent : Matrix = matrix_of c.args.shape c.args.list.now in
    let fits : Sizes (lent) = sizes-say (lent) (sym c.sizes_fit.ensures ∙ not-false _ (ap not c.if-not-sizes_fit.false)) in
    record { sizes = fits; whole = omega (arith, c.if-list-m.false) }
