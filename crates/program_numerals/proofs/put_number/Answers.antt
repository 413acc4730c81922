-- `program_numerals::put_number` meets its contract: the digits, and the byte after them. Assumes nothing.
use native.Mathlib.Omega.{arith}
use Rattle.program_numerals.proofs.Puts.{put_then, put-length}
use Rattle.program_numerals.proofs.Numerals.{decimal-five, number-ends}
use Rattle.program_numerals.proofs.put_number.Goals as goal

pub put_decimal-next-requires : goal.put_decimal-next-requires
put_decimal-next-requires c =
    let s = c in
    omega (arith, decimal-five s.args.x s.ranges.x.fits)

pub put_byte-requires : goal.put_byte-requires
put_byte-requires c =
    let p = c in
    let s = p in
    omega (arith, p.put_decimal-next.ensures.ends, put-length p.put_decimal-next.ensures, decimal-five s.args.x s.ranges.x.fits)

pub returns : goal.returns
returns c =
    let l = c in
    let s = l in
    let p = put_then l.put_decimal-next.ensures l.put_byte.ensures in
    record { put = p; within = number-ends s.args.x s.args.end s.ranges.x.fits p }
