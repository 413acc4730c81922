-- `ffi::mlgd_list_to_sheet` meets its contract: the code of what the call says, and the sheet that it writes. Assumes nothing.
use mathlib.Core.Path.{ap, ◌∙◌}
use Rattle.answers.specs.Paper.Answers.{Said}
use Rattle.ffi_codes.specs.Codes.{code_of}
use Rattle.ffi.proofs.mlgd_list_to_sheet.Goals as goal

pub returns : goal.returns
returns c =
    let r = c.sheet_from_list-a.ensures in
    record { answer = c.stored_code.ensures ∙ ap (λ (s : Said). code_of s) r.says; sheet = r.sheet }
