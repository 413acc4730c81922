-- `iterative_votes::revote`: either way the votes are those of the set, and what it has apart from the empty set is the number of its checks.
use mathlib.Core.Path.{refl, ◌∙◌}
use lib.ListN.{replicate}
use Rattle.matrix.specs.Paper.Shapes.{matrix_of}
use Rattle.syndrome_sets.proofs.Counts.{failing-apart}
use Rattle.iterative_votes.proofs.Kept.{votes-past}
use Rattle.iterative_votes.proofs.revote.Goals as goal

pub vote_anew-requires : goal.vote_anew-requires
vote_anew-requires c =
    let s = c in
    let a = s.args in
    let H = matrix_of a.shape a.list.now in
    (s.requires.0, s.requires.1, s.requires.3, s.requires.5, votes-past H s.requires.0 a.was.now a.votes.now s.requires.4)

pub returns-then-apart-failing : goal.returns-then-apart-failing
returns-then-apart-failing c =
    let s = c in
    let a = s.args in
    let H = matrix_of a.shape a.list.now in
    let counted = c.apart-failing.ensures.1 in
    (c.move_votes.ensures.0, counted ∙ failing-apart H s.requires.0.sizes.m_most a.parity.now (replicate 16 0) s.requires.3 refl, c.move_votes.ensures.1)

pub returns-else-apart-failing : goal.returns-else-apart-failing
returns-else-apart-failing c =
    let s = c in
    let a = s.args in
    let H = matrix_of a.shape a.list.now in
    let counted = c.apart-failing.ensures.1 in
    (c.vote_anew.ensures.0, counted ∙ failing-apart H s.requires.0.sizes.m_most a.parity.now (replicate 16 0) s.requires.3 refl, c.vote_anew.ensures.1)
