-- `firmware_asking::ask_list` meets its contract: refusal 1, then refusal 2. Assumes nothing.
use mathlib.Core.Bool.{not}
use mathlib.Core.Path.{ap}
use mathlib.Core.Path.{◌≡◌, sym, ◌∙◌}
use mathlib.Core.Bool.{true}
use mathlib.Core.List.{[]}
use native.Mathlib.Omega.{arith}
use borrow.Author.Tests.{not-true, not-false}
use Rattle.matrix.specs.Paper.Code.{Matrix}
use Rattle.matrix.specs.Paper.Check.{sizes_fit}
use Rattle.matrix.specs.Paper.Shapes.{matrix_of}
use Rattle.matrix.proofs.PlainCheck.{sizes-say}
use Rattle.matrix.proofs.Rows.{few-entries}
use Rattle.firmware_asking.proofs.Questions.{list-sizes, list_length, list-passes}
use Rattle.firmware_asking.proofs.ask_list.Goals as goal

pub returns-then-not-sizes_fit : goal.returns-then-not-sizes_fit
returns-then-not-sizes_fit c =
    let sizes : Matrix = matrix_of c.args.shape [] in
    let s = c in
    list-sizes (sizes) s.args.bytes (sym c.sizes_fit.ensures ∙ not-true _ (ap not c.if-not-sizes_fit.true))

pub overflow_mul-m : goal.overflow_mul-m
overflow_mul-m c =
    let sizes : Matrix = matrix_of c.args.shape [] in
    let fits : sizes_fit (sizes) ≡ true = sym c.sizes_fit.ensures ∙ not-false _ (ap not c.if-not-sizes_fit.false) in
    let e = c in
    omega (arith, few-entries (sizes) (sizes-say (sizes) (fits)))

pub overflow_mul-m-2 : goal.overflow_mul-m-2
overflow_mul-m-2 c =
    let sizes : Matrix = matrix_of c.args.shape [] in
    let fits : sizes_fit (sizes) ≡ true = sym c.sizes_fit.ensures ∙ not-false _ (ap not c.if-not-sizes_fit.false) in
    let e = c in
    omega (arith, few-entries (sizes) (sizes-say (sizes) (fits)))

pub returns-then-bytes-m : goal.returns-then-bytes-m
returns-then-bytes-m c =
    let sizes : Matrix = matrix_of c.args.shape [] in
    let fits : sizes_fit (sizes) ≡ true = sym c.sizes_fit.ensures ∙ not-false _ (ap not c.if-not-sizes_fit.false) in
    let e = c in
    let s = e in
    list_length (sizes) s.args.bytes (fits) (λ q. omega (arith, q, c.if-bytes-m.true))

pub returns : goal.returns
returns c =
    let sizes : Matrix = matrix_of c.args.shape [] in
    let fits : sizes_fit (sizes) ≡ true = sym c.sizes_fit.ensures ∙ not-false _ (ap not c.if-not-sizes_fit.false) in
    let e = c in
    let s = e in
    list-passes (sizes) s.args.bytes (fits) (omega (arith, c.if-bytes-m.false))
