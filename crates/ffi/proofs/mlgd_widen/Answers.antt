-- `ffi::mlgd_widen` meets its contract: the code of what `widen` says, and what it writes. Assumes nothing.
use mathlib.Core.Path.{ap, ◌∙◌}
use Rattle.answers.specs.Paper.Answers.{Verdict, after, acceptance}
use Rattle.ffi_codes.specs.Codes.{code_of}
use Rattle.ffi.proofs.mlgd_widen.Goals as goal

pub returns : goal.returns
returns c =
    let r = c.widen-a.ensures in
    record { answer = c.checked_code.ensures ∙ ap (λ (v : Verdict). code_of (after v acceptance)) r.answer; levels = r.levels }
