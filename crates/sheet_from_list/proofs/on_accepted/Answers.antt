-- `sheet_from_list::on_accepted` meets its contract: refusal 12 keeps the buffer, else what follows where a sheet describes the matrix. Assumes nothing.
use mathlib.Core.Bool.{not}
use mathlib.Core.Path.{ap}
use mathlib.Core.Path.{sym, ◌∙◌}
use borrow.Author.Tests.{not-true, not-false}
use Rattle.matrix.specs.Paper.Shapes.{matrix_of}
use Rattle.sheet_from_list.proofs.Answers.{refused-shape}
use Rattle.sheet_from_list.proofs.on_accepted.Goals as goal

pub returns-then-not-described : goal.returns-then-not-described
returns-then-not-described c =
    let s = c in
    refused-shape (matrix_of s.args.shape s.args.list.now) s.args.z s.args.sheet.now s.requires (sym c.described.ensures ∙ not-true _ (ap not c.if-not-described.true))

pub on_described-requires : goal.on_described-requires
on_described-requires c =
    let s = c in
    (s.requires, sym c.described.ensures ∙ not-false _ (ap not c.if-not-described.false))
