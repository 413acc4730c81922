use Rattle.sheet_rows.proofs.Lent.{low-none, low-more}
use Rattle.sheet_rows.proofs.fewest.Goals as goal

pub loop-c-init : goal.loop-c-init
loop-c-init c = low-none c.args.bytes.now c.args.h c.requires.1

pub loop-c-preserved : goal.loop-c-preserved
loop-c-preserved c =
    let l = c.loop-c in
    let bs = c.args.bytes.now in
    low-more bs l.c l.low c.set_down.result _ l.invariant c.set_down.ensures.0 (cc)
