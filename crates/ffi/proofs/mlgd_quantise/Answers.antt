-- `ffi::mlgd_quantise` meets its contract: what the quantiser answers and writes for the setting that stands for the lent one. Assumes nothing.
use mathlib.Core.Path.{ap, ◌∙◌}
use Rattle.answers.specs.Paper.Answers.{Verdict, after, acceptance}
use Rattle.answers.specs.Paper.Enums.{verdict_of}
use Rattle.quantiser_settings.specs.Paper.Settings.{setting_of}
use Rattle.ffi_codes.specs.Codes.{code_of}
use Rattle.quantiser_settings.specs.Numbers.{setting_by}
use Rattle.ffi.proofs.Alike.{quantise-alike}
use Rattle.ffi.proofs.mlgd_quantise.Goals as goal

pub returns : goal.returns
returns c =
    let a = c.args in
    let t = c.setting_of in
    let r = c.quantise-a in
    let q = quantise-alike (setting_by a.bits a.limit a.kind a.step) (setting_of t.result) t.ensures a.samples.now (verdict_of r.result)
    a.levels.now r.new.levels a.word.now r.new.word r.ensures in
    record {
      answer = c.checked_code.ensures ∙ ap (λ (v : Verdict). code_of (after v acceptance)) q.answer;
      levels = q.levels;
      word = q.word;
    }
