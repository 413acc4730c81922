use mathlib.Core.Path.{sym}
use native.Mathlib.Numerals.{add-one}
use native.Mathlib.Omega.{arith}
use lib.ListN.{take}
use lib.Seq.{take-suc, length-take-le}
use Rattle.program_numerals.proofs.Puts.{put-none, put_then, put_as, put-length}
use Rattle.program_numerals.specs.Paper.Numerals.{hex}
use Rattle.program_numerals.proofs.Numerals.{hex-append, length-hex}
use Rattle.program_numerals.proofs.put_hex.Goals as goal

pub loop-b-init : goal.loop-b-init
unfolding hex
loop-b-init c = put-none _ _

pub put_pair-end-requires : goal.put_pair-end-requires
put_pair-end-requires c =
    let word = c.args.word.now in
    let l = c.loop-b in
    omega (arith, l.invariant.ends, put-length l.invariant, length-hex word, length-hex (take l.b-index word), length-take-le l.b-index word (omega arith))

pub loop-b-preserved : goal.loop-b-preserved
loop-b-preserved c =
    let word = c.args.word.now in
    let l = c.loop-b in
    put_as (sym (rw (add-one, take-suc word l.b-index 0 (omega arith), hex-append))) (put_then l.invariant c.put_pair-end.ensures)
