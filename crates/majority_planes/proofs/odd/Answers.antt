-- `majority_planes::odd`: the operations are the definition.
use mathlib.Core.Path.{refl}
use Rattle.majority_planes.specs.Adders.{odd_of}
use Rattle.majority_planes.proofs.odd.Goals as goal

pub returns : goal.returns
unfolding odd_of
returns c = refl
