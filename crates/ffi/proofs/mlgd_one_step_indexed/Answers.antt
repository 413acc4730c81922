-- `ffi::mlgd_one_step_indexed` meets its contract: the code of what the call says, and the word that it writes. Assumes nothing.
use mathlib.Core.Path.{sym, ap, subst, ◌∙◌}
use Rattle.ffi_codes.specs.Codes.{code_of, Small}
use Rattle.ffi.proofs.Bounds.{one-step-indexed-small}
use Rattle.ffi.proofs.mlgd_one_step_indexed.Goals as goal

pub answer_code-requires : goal.answer_code-requires
answer_code-requires c = subst Small (sym c.one_step_indexed-a.ensures.answer.says) (one-step-indexed-small _ _ _ _)

pub returns : goal.returns
returns c =
    let r = c.one_step_indexed-a.ensures.answer in record { answer = c.answer_code.ensures ∙ ap code_of r.says; word = r.word }
