-- `program_text::put_block` meets its contract: the number, and then a report or a refusal. Assumes nothing.
use mathlib.Core.Path.{sym, ap}
use native.Mathlib.Omega.{arith}
use Rattle.std.proofs.Common.{Result}
use Rattle.answers.specs.declared.Report.{Report}
use Rattle.answers.specs.declared.Refusal.{Refusal}
use Rattle.answers.specs.Paper.Enums.{said_of}
use Rattle.program_text.specs.Paper.Output.{said_text, block_text}
use Rattle.program_numerals.proofs.Puts.{put_then, put_as}
use Rattle.program_text.proofs.put_block.Goals as goal

pub returns-in-Ok : goal.returns-in-Ok
unfolding block_text said_text
returns-in-Ok c =
    let l = c in
    let p = l in
    let s = p in
    let e = ap (λ (a : Result Report Refusal). block_text s.args.number (said_of a) s.args.word.now) (sym l.in-Ok.is) in
    record {
      put = put_as e (put_then p.put_number-at.ensures.put l.put_report.ensures.put);
      within = omega (arith, p.put_number-at.ensures.within, l.put_report.ensures.within);
    }

pub returns-in-Err : goal.returns-in-Err
unfolding block_text said_text
returns-in-Err c =
    let l = c in
    let p = l in
    let s = p in
    let e = ap (λ (a : Result Report Refusal). block_text s.args.number (said_of a) s.args.word.now) (sym l.in-Err.is) in
    record {
      put = put_as e (put_then p.put_number-at.ensures.put l.put_refused.ensures.put);
      within = omega (arith, p.put_number-at.ensures.within, l.put_refused.ensures.within);
    }
