-- `program_numerals::put_hex` meets its contract. The invariant: the digits of the first bytes are put. Assumes nothing.
use lib.ListN.{take}
use Rattle.program_numerals.specs.Texts.{Put}
use Rattle.program_numerals.specs.Paper.Numerals.{hex}
use Rattle.program_numerals.proofs.put_hex.Given as goal

abbrev pub invariant-loop-b : goal.invariant-loop-b
invariant-loop-b l = Put (hex (take l.b-index l.word)) l.at l.initial.out l.out l.end
