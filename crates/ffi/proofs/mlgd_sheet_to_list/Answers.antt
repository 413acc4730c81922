-- `ffi::mlgd_sheet_to_list` meets its contract: the code of what the call says, and the sizes and the list that it writes. Assumes nothing.
use mathlib.Core.Path.{ap, ◌∙◌}
use Rattle.answers.specs.Paper.Answers.{Verdict, after, acceptance}
use Rattle.sheet.specs.Paper.Calls.{to_list_of}
use Rattle.ffi_codes.specs.Codes.{code_of}
use Rattle.ffi.proofs.mlgd_sheet_to_list.Goals as goal

pub returns : goal.returns
unfolding to_list_of
returns c =
    let r = c.sheet_to_list-a.ensures in
    record { answer = c.checked_code.ensures ∙ ap (λ (v : Verdict). code_of (after v acceptance)) r.says; sizes = r.sizes; list = r.list }
