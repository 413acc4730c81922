-- `packed_distance::eight` meets its contract: the first byte is the lowest of the number. Assumes nothing.
use native.Mathlib.Omega.{arith}
use Rattle.packed_distance.specs.Paper.Words.{word_at}
use Rattle.packed_distance.proofs.eight.Goals as goal

pub returns : goal.returns
unfolding word_at
returns c = record { value = omega arith; bytes = λ i g l. (c.type_inv.w i).fits }
