-- `iterative_rounds::round` meets its contract: each bit is moved by its column's weight, and what `update` leaves are bits, so that their votes
-- can be tallied; what is kept of the bits before is that of their copy. Assumes nothing.
use mathlib.Core.Path.{◌∙◌}
use native.Mathlib.Omega.{arith}
use Rattle.counting.specs.Places.{at}
use Rattle.counting.proofs.Writes.{over-long}
use Rattle.matrix.specs.Paper.Code.{Matrix}
use Rattle.matrix.specs.Paper.Shapes.{matrix_of}
use Rattle.iterative_rounds.proofs.Copies.{copied, copied-word}
use Rattle.iterative_rounds.proofs.States.{weighed-moved}
use Rattle.iterative_rounds.proofs.Runs.{moved_word}
use Rattle.iterative_rounds.proofs.round.Goals as goal

pub update-requires : goal.update-requires
update-requires g c =
    let p = c.requires.run_lent.0 in
    (record { columns = p.matrix.sizes.n_most; levels = omega (arith, p.largest); within = p.within }, p.long_word, p.long_levels)

pub retally-requires : goal.retally-requires
retally-requires g c =
    let s = c in
    let H : Matrix = matrix_of s.args.shape s.args.list.now in
    let p = s.requires.run_lent.0 in
    let e = c.copy.ensures in record {
      accepted = p.matrix;
      word = (
        copied-word H s.args.bits.now s.args.before.now _ e p.word,
        moved_word H _ _ _ _ _ _ _ _ c.update.ensures,
        g.met.T.Tally.of_copy s.args.way.now H _ (at s.args.bits.now) s.args.votes.now p.matrix
            (copied H s.args.bits.now s.args.before.now _ e) s.requires.kept.0,
      );
    }

pub returns : goal.returns
returns g c =
    let s = c in
    let H : Matrix = matrix_of s.args.shape s.args.list.now in
    let e = c.copy.ensures in (
      record { moved = weighed-moved H _ s.args.weights.now _ _ _ _ _ s.requires.run_lent.1 c.update.ensures; tallied = c.retally.ensures.1 },
      c.retally.ensures.0,
      c.retally.ensures.2,
      over-long s.args.shape.n (at s.args.bits.now) s.args.before.now _ e (omega (arith, s.requires.run_lent.0.matrix.sizes.n_most, s.requires.kept.1)) ∙ s.requires.kept.1,
    )
