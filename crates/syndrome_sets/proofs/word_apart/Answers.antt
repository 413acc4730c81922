-- `syndrome_sets::word_apart`: the ones of the words' difference are the bits in which they differ.
use mathlib.Core.Path.{refl}
use native.Mathlib.Omega.{arith}
use Rattle.syndrome_sets.proofs.Counts.{word-few, word-bits}
use Rattle.syndrome_sets.proofs.word_apart.Goals as goal

pub overflow_cast-result : goal.overflow_cast-result
overflow_cast-result c = omega (arith, word-few c.args.x c.args.y c.ranges.x.fits c.ranges.y.fits)

pub returns : goal.returns
returns c = (refl, word-bits c.args.x c.args.y c.ranges.x.fits c.ranges.y.fits)
