-- `sheet_to_list::on_small`: refusal 1 by the sizes of the sheet, else its list is made.
use mathlib.Core.Bool.{not}
use mathlib.Core.Path.{ap}
use mathlib.Core.Path.{refl, sym, ◌∙◌}
use borrow.Author.Tests.{not-true, not-false}
use Rattle.sheet.specs.Paper.SheetMatrix.{matrix_of_sheet}
use Rattle.sheet_to_list.proofs.Answers.{refused-matrix}
use Rattle.sheet_to_list.proofs.Sizes.{sizes-refused, sizes-made}
use Rattle.sheet_to_list.proofs.on_small.Goals as goal

pub returns-then-not-sizes_fit : goal.returns-then-not-sizes_fit
returns-then-not-sizes_fit c =
    let s = c in
    refused-matrix (matrix_of_sheet s.args.sheet.now) s.args.sizes.now s.args.list.now 1 0 _
    (sizes-refused s.args.sheet.now _ c.shape_of-shape.ensures (sym c.sizes_fit.ensures ∙ not-true _ (ap not c.if-not-sizes_fit.true))) refl

pub on_sizes-requires : goal.on_sizes-requires
on_sizes-requires c =
    let s = c in
    sizes-made s.args.sheet.now _ c.shape_of-shape.ensures s.args.h s.requires
    (sym c.sizes_fit.ensures ∙ not-false _ (ap not c.if-not-sizes_fit.false))
