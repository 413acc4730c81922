-- `iterative_levels::bias_one` meets its contract: the sum of a level and the middle fits, and is the number that keeps it. Assumes nothing.
use mathlib.Core.Path.{ap}
use native.Mathlib.Omega.{arith}
use lib.IntN.{nat_abs}
use Rattle.iterative_levels.proofs.Levels.{biased-le}
use Rattle.iterative_levels.proofs.Signs.{sum_fits, sum_back}
use Rattle.iterative_levels.proofs.bias_one.Goals as goal

pub overflow_add-s : goal.overflow_add-s
overflow_add-s c = sum_fits c.args.r c.args.middle c.requires.0 c.requires.1 c.ranges.r

pub overflow_cast-result : goal.overflow_cast-result
overflow_cast-result c =
    rw (sum_back c.args.r c.args.middle c.requires.0 c.requires.1 c.ranges.r)
    (tt, record { fits = omega (arith, biased-le c.args.middle c.args.r c.requires.1) })

pub returns : goal.returns
returns c = ap nat_abs (sum_back c.args.r c.args.middle c.requires.0 c.requires.1 c.ranges.r)
