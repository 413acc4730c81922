-- `ffi::mlgd_iterative` meets its contract: what iterative voting answers and writes for the setting that stands for the lent one. Assumes nothing.
use mathlib.Core.Path.{sym, ap, subst, ◌∙◌}
use Rattle.answers.specs.Paper.Enums.{said_of}
use Rattle.matrix.specs.Paper.Code.{Matrix, matrix}
use Rattle.quantiser_levels.specs.Paper.Samples.{Setting}
use Rattle.quantiser_settings.specs.Paper.Settings.{setting_of}
use Rattle.ffi_codes.specs.Codes.{code_of, Small}
use Rattle.quantiser_settings.specs.Numbers.{setting_by}
use Rattle.ffi.proofs.Bounds.{iterative-small}
use Rattle.ffi.proofs.Alike.{iterative-alike}
use Rattle.ffi.proofs.mlgd_iterative.Goals as goal

pub answer_code-requires : goal.answer_code-requires
answer_code-requires c = subst Small (sym c.iterative-a.ensures.answer.answer) (iterative-small _ _ _ _ _)

pub returns : goal.returns
returns c =
    let a = c.args in
    let t = c.setting_of in
    let r = c.iterative-a in
    let H : Matrix = matrix a.n a.m a.rho a.gamma a.list.now in
    let S : Setting = setting_by a.bits a.limit a.kind a.step in
    let d = iterative-alike S (setting_of t.result) t.ensures a.samples.now (said_of r.result) a.word.now r.new.word
    a.levels.now
    r.new.levels H r.ensures.answer in
    record { answer = c.answer_code.ensures ∙ ap code_of d.answer; word = d.word; levels = d.levels }
