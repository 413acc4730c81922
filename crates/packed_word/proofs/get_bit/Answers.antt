-- `packed_word::get_bit` meets its contract: the shifted byte's lowest digit is the bit. Assumes nothing.
use lib.Bits.{and_mask}
use Rattle.packed_word.specs.Paper.Packed.{bit_at}
use Rattle.packed_word.proofs.get_bit.Goals as goal

pub returns : goal.returns
unfolding bit_at
returns c = and_mask _ 1
