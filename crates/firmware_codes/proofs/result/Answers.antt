-- `firmware_codes::result` meets its contract: a report gives its outcome, a refusal what its own function ensures. Assumes nothing.
use mathlib.Core.Path.{sym, ap, ◌∙◌}
use Rattle.std.proofs.Common.{Result}
use Rattle.answers.specs.declared.Report.{Report}
use Rattle.answers.specs.declared.Refusal.{Refusal}
use Rattle.answers.specs.Paper.Enums.{said_of}
use Rattle.firmware_codes.specs.Paper.Codes.{result_of}
use Rattle.firmware_codes.proofs.result.Goals as goal

pub returns-in-Err : goal.returns-in-Err
returns-in-Err c = c.refusal_result.ensures ∙ ap (λ (a : Result Report Refusal). result_of (said_of a)) (sym c.in-Err.is)
