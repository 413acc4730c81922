-- `majority_planes::put`: six stores.
use Rattle.majority_planes.proofs.Counts.{six-put}
use Rattle.majority_planes.proofs.put.Goals as goal

pub returns : goal.returns
returns c = six-put c.args.w _ _ _ _ _ _ c.requires.0 c.args.planes.now c.requires.1
