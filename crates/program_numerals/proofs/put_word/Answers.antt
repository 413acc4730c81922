-- `program_numerals::put_word` meets its contract: the digits, and the line's end. Assumes nothing.
use native.Mathlib.Omega.{arith}
use Rattle.program_numerals.proofs.Puts.{put_then}
use Rattle.program_numerals.proofs.Numerals.{length-hex}
use Rattle.program_numerals.proofs.put_word.Goals as goal

pub put_hex-next-requires : goal.put_hex-next-requires
put_hex-next-requires c = omega (arith, length-hex c.args.word.now)

pub put_byte-requires : goal.put_byte-requires
put_byte-requires c =
    let p = c in
    omega (arith, p.put_hex-next.ensures.ends, length-hex p.args.word.now)

pub returns : goal.returns
returns c =
    let l = c in
    let h = l in
    record {
      put = put_then h.put_hex-next.ensures l.put_byte.ensures;
      within = omega (arith, h.put_hex-next.ensures.ends, l.put_byte.ensures.ends, length-hex h.args.word.now);
    }
