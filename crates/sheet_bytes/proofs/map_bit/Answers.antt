-- `sheet_bytes::map_bit` meets its contract: six bytes are 48 places. Assumes nothing.
use Rattle.sheet.specs.Paper.Sheet.{map_bit}
use Rattle.sheet_bytes.proofs.map_bit.Goals as goal

pub returns : goal.returns
unfolding map_bit
returns c = c.get_bit.ensures
