-- `byte_numbers::number16` meets its contract. Assumes nothing.
use native.Mathlib.Omega.{arith}
use Rattle.byte_numbers.specs.Paper.Numbers.{number16}
use Rattle.byte_numbers.proofs.number16.Goals as goal

pub returns : goal.returns
unfolding number16
returns c = omega arith
