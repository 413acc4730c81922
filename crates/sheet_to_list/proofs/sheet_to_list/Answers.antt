-- `sheet_to_list::sheet_to_list`: refusal 11, else what follows on a sheet.
use mathlib.Core.Bool.{not}
use mathlib.Core.Path.{ap}
use mathlib.Core.Path.{sym, ◌∙◌}
use borrow.Author.Tests.{not-true, not-false}
use Rattle.sheet.proofs.PlainSheet.{sheet-reads}
use Rattle.sheet_to_list.proofs.Answers.{refused-sheet, answered-sheet}
use Rattle.sheet_to_list.proofs.sheet_to_list.Goals as goal

pub returns-then-not-is_sheet : goal.returns-then-not-is_sheet
returns-then-not-is_sheet c =
    let s = c in
    refused-sheet s.args.sheet.now s.args.sizes.now s.args.list.now
    (not-false _ (sym c.is_sheet.ensures ∙ not-true _ (ap not c.if-not-is_sheet.true)))

pub on_sheet-requires : goal.on_sheet-requires
on_sheet-requires c =
    (sheet-reads c.args.sheet.now).is
    (not-true _ (sym c.is_sheet.ensures ∙ not-false _ (ap not c.if-not-is_sheet.false)))

pub returns : goal.returns
returns c =
    answered-sheet c.args.sheet.now
    (not-true _ (sym c.is_sheet.ensures ∙ not-false _ (ap not c.if-not-is_sheet.false))) c.on_sheet.ensures
