-- `ffi_codes::answer_code` meets its contract: each case by what its own code ensures. Assumes nothing.
use mathlib.Core.Path.{sym, ap, subst, ◌∙◌}
use Rattle.std.proofs.Common.{Result}
use Rattle.answers.specs.declared.Report.{Report}
use Rattle.answers.specs.declared.Refusal.{Refusal}
use Rattle.answers.specs.Paper.Enums.{said_of}
use Rattle.ffi_codes.specs.Codes.{code_of, Small}
use Rattle.ffi_codes.proofs.answer_code.Goals as goal

pub report_code-requires : goal.report_code-requires
report_code-requires c = subst (λ (a : Result Report Refusal). Small (said_of a)) c.in-Ok.is c.requires

pub returns-in-Ok : goal.returns-in-Ok
returns-in-Ok c = c.report_code.ensures ∙ ap (λ (a : Result Report Refusal). code_of (said_of a)) (sym c.in-Ok.is)

pub returns-in-Err : goal.returns-in-Err
returns-in-Err c = c.refusal_code.ensures ∙ ap (λ (a : Result Report Refusal). code_of (said_of a)) (sym c.in-Err.is)
