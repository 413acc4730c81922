-- `ffi_bench::mlgd_one_step_accepted` meets its contract: the code of the core's report, and the word that it writes. Assumes nothing.
use mathlib.Core.Path.{sym, ap, subst, ◌∙◌}
use Rattle.packed_word.specs.Paper.Packed.{bit_at}
use Rattle.matrix.specs.Paper.Code.{matrix}
use Rattle.ffi_codes.specs.Codes.{code_of, Small}
use Rattle.ffi.proofs.Bounds.{report-small}
use Rattle.ffi_bench.proofs.mlgd_one_step_accepted.Goals as goal

pub answer_code-requires : goal.answer_code-requires
answer_code-requires c =
    let s = c in
    let a = s.args in
    subst Small (sym c.one_step_accepted-p.ensures.says)
    (report-small (matrix a.n a.m a.rho a.gamma a.list.now) s.requires.matrix (bit_at a.received.now))

pub returns : goal.returns
returns c =
    let r = c.one_step_accepted-p.ensures in record { answer = c.answer_code.ensures ∙ ap code_of r.says; word = r.word }
