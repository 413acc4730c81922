-- `ffi::mlgd_one_step` meets its contract: the code of what one-step voting says, and the word that it writes. Assumes nothing.
use mathlib.Core.Path.{sym, ap, subst, ◌∙◌}
use lib.ListN.{length}
use Rattle.matrix.specs.Paper.Code.{matrix}
use Rattle.ffi_codes.specs.Codes.{code_of, Small}
use Rattle.ffi.proofs.Bounds.{one-step-small}
use Rattle.ffi.proofs.mlgd_one_step.Goals as goal

pub answer_code-requires : goal.answer_code-requires
answer_code-requires c =
    let a = c.args in
    subst Small (sym c.one_step-a.ensures.answer.says)
    (one-step-small (matrix a.n a.m a.rho a.gamma a.list.now) a.received.now (length a.word.now))

pub returns : goal.returns
returns c =
    let r = c.one_step-a.ensures.answer in record { answer = c.answer_code.ensures ∙ ap code_of r.says; word = r.word }
