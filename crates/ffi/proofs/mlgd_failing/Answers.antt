-- `ffi::mlgd_failing` meets its contract: the code of what the count says. Assumes nothing.
use mathlib.Core.Path.{sym, ap, subst, ◌∙◌}
use Rattle.matrix.specs.Paper.Code.{matrix}
use Rattle.ffi_codes.specs.Codes.{code_of, Small}
use Rattle.ffi.proofs.Bounds.{failing-small}
use Rattle.ffi.proofs.mlgd_failing.Goals as goal

pub counted_code-requires : goal.counted_code-requires
counted_code-requires c =
    let a = c.args in
    subst Small (sym c.failing.ensures) (failing-small (matrix a.n a.m a.rho a.gamma a.list.now) a.received.now)

pub returns : goal.returns
returns c = c.counted_code.ensures ∙ ap code_of c.failing.ensures
