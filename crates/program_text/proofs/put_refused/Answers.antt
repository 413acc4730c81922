-- `program_text::put_refused` meets its contract: the word, the number and the place, one after the other. Assumes nothing.
use mathlib.Core.Path.{ap₂}
use native.Mathlib.Omega.{arith}
use Rattle.program_text.specs.Paper.Output.{line, refused_text}
use Rattle.program_numerals.proofs.Puts.{put_then, put_as}
use Rattle.program_text.proofs.put_refused.Goals as goal

pub returns : goal.returns
unfolding refused_text line
returns c =
    let l = c in
    let p = l in
    let t = p in
    record {
      put = put_as (ap₂ refused_text p.number.ensures l.place.ensures)
          (put_then t.put_text-at.ensures (put_then p.put_number-at.ensures.put l.put_number.ensures.put));
      within = omega (arith, t.put_text-at.ensures.ends, p.put_number-at.ensures.within, l.put_number.ensures.within);
    }
