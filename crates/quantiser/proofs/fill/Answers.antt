-- `quantiser::fill` meets its contract: what is stored by the setting's scale are the setting's levels. Assumes nothing.
use native.Mathlib.Omega.{arith}
use Rattle.quantiser.proofs.Buffers.{stored-filled}
use Rattle.quantiser.proofs.fill.Goals as goal

pub returns : goal.returns
returns c = stored-filled c.scale_of.ensures (omega arith) c.fill_by.ensures
