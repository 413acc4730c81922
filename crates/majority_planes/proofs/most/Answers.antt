-- `majority_planes::most`: the operations are the definition.
use mathlib.Core.Path.{refl}
use Rattle.majority_planes.specs.Adders.{most_of}
use Rattle.majority_planes.proofs.most.Goals as goal

pub returns : goal.returns
unfolding most_of
returns c = refl
