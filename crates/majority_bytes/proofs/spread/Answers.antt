-- `majority_bytes::spread` meets its contract. Assumes nothing.
use Rattle.majority_bytes.proofs.Spreads.{spread-mask}
use Rattle.majority_bytes.proofs.spread.Goals as goal

pub returns : goal.returns
returns c = spread-mask c.args.x c.args.s
