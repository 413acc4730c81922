-- `ffi::mlgd_changed` meets its contract: the code of what the count says. Assumes nothing.
use mathlib.Core.Path.{sym, ap, subst, ◌∙◌}
use Rattle.ffi_codes.specs.Codes.{code_of, Small}
use Rattle.ffi.proofs.Bounds.{changed-small}
use Rattle.ffi.proofs.mlgd_changed.Goals as goal

pub answer_code-requires : goal.answer_code-requires
answer_code-requires c =
    let a = c.args in
    subst Small (sym c.changed.ensures) (changed-small a.a.now a.b.now)

pub returns : goal.returns
returns c = c.answer_code.ensures ∙ ap code_of c.changed.ensures
