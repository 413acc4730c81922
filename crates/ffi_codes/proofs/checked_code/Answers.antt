-- `ffi_codes::checked_code` meets its contract: a refusal by what its own code ensures. Assumes nothing.
use mathlib.Core.Path.{sym, ap, ◌∙◌}
use Rattle.std.proofs.Common.{Result}
use Rattle.answers.specs.declared.Refusal.{Refusal}
use Rattle.answers.specs.Paper.Enums.{verdict_of}
use Rattle.answers.specs.Paper.Answers.{after, acceptance}
use Rattle.ffi_codes.specs.Codes.{code_of}
use Rattle.ffi_codes.proofs.checked_code.Goals as goal

pub returns-in-Err : goal.returns-in-Err
returns-in-Err c = c.refusal_code.ensures ∙ ap (λ (a : Result Unit Refusal). code_of (after (verdict_of a) acceptance)) (sym c.in-Err.is)
