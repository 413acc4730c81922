-- `iterative_core::start` meets its contract: the levels of the samples lie in their range, so that they can be kept. Assumes nothing.
use Rattle.iterative_core.proofs.Results.{filled-bounded, filled-started}
use Rattle.iterative_core.proofs.start.Goals as goal

pub bias-requires : goal.bias-requires
bias-requires c =
    let s = c in
    let p = s.requires.0 in
    let f = c.fill.ensures in
    (rw s.requires.1 (filled-bounded _ _ _ _ p.setting p.few p.room f.levels), s.requires.2)

pub returns : goal.returns
returns c =
    let s = c in
    filled-started _ _ _ _ _ _ _ _ c.fill.ensures (rw s.requires.1 at c.bias.ensures)
