-- `program_text::put_report` meets its contract: the fields one after the other. Assumes nothing.
use native.Mathlib.Omega.{arith}
use Rattle.program_text.specs.Paper.Output.{line, said_text}
use Rattle.program_numerals.proofs.Puts.{put_then}
use Rattle.program_text.proofs.put_report.Goals as goal

pub returns : goal.returns
unfolding said_text line
returns c =
    let w = c in
    let n3 = w in
    let n2 = n3 in
    let n1 = n2 in
    let o = n1 in
    record {
      put = put_then o.put_outcome-at.ensures.put
          (put_then n1.put_number-at.ensures.put
          (put_then n2.put_number-at-2.ensures.put
          (put_then n3.put_number-at-3.ensures.put w.put_word.ensures.put)));
      within = omega (
        arith,
        o.put_outcome-at.ensures.within,
        n1.put_number-at.ensures.within,
        n2.put_number-at-2.ensures.within,
        n3.put_number-at-3.ensures.within,
        w.put_word.ensures.within,
      );
    }
