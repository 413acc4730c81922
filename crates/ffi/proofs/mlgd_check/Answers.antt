-- `ffi::mlgd_check` meets its contract: the code of what the check says. Assumes nothing.
use mathlib.Core.Path.{ap, ◌∙◌}
use Rattle.answers.specs.Paper.Answers.{Verdict, after, acceptance}
use Rattle.ffi_codes.specs.Codes.{code_of}
use Rattle.ffi.proofs.mlgd_check.Goals as goal

pub returns : goal.returns
returns c = c.checked_code.ensures ∙ ap (λ (v : Verdict). code_of (after v acceptance)) c.check.ensures
