-- `retally` of `iterative_sets::BySets` meets its contract: the set of failing checks is turned over at the flipped bits' columns, and its votes follow.
-- Assumes nothing.
use mathlib.Core.Path.{refl}
use Rattle.counting.specs.Places.{at}
use Rattle.matrix.specs.Paper.Code.{Matrix}
use Rattle.matrix.specs.Paper.Shapes.{matrix_of}
use Rattle.syndrome_words.specs.Sets.{SetParities}
use Rattle.syndrome_update.proofs.KeptParities.{word_below}
use Rattle.syndrome_sets.proofs.KeptSets.{turned-sets}
use Rattle.iterative_sets.proofs.Sets.{set-tallied}
use Rattle.iterative_sets.proofs.BySetsTally.retally.Goals as goal

pub list_flips-flipped-requires : goal.list_flips-flipped-requires
list_flips-flipped-requires c =
    let lent : Matrix = matrix_of c.args.shape c.args.list.now in
    let s = c in (
      s.requires.accepted.sizes.n_most,
      word_below (lent) s.args.before.now s.requires.word.0,
      word_below (lent) s.args.bits.now s.requires.word.1,
      s.requires.word.2.4,
    )

pub revote-requires : goal.revote-requires
revote-requires c =
    let lent : Matrix = matrix_of c.args.shape c.args.list.now in
    let turned : SetParities (lent) (at c.args.bits.now) c.turn.new.parity = let s = c in
    let f = c.list_flips-flipped in
    turned-sets (lent) s.requires.accepted s.args.self.now.columns.now s.requires.word.2.0 (at s.args.before.now) (at s.args.bits.now) s.requires.word.0 s.requires.word.1
    f.new.places f.result f.ensures.places s.args.self.now.parity c.turn.new.parity s.requires.word.2.2 c.turn.ensures in
    let t = c in
    let s = c in
    (s.requires.accepted, s.requires.word.2.1, s.requires.word.2.2.past, (turned).past, s.requires.word.2.3, t.list_flips-flipped.ensures.places.long)

pub returns : goal.returns
returns c =
    let lent : Matrix = matrix_of c.args.shape c.args.list.now in
    let turned : SetParities (lent) (at c.args.bits.now) c.turn.new.parity = let s = c in
    let f = c.list_flips-flipped in
    turned-sets (lent) s.requires.accepted s.args.self.now.columns.now s.requires.word.2.0 (at s.args.before.now) (at s.args.bits.now) s.requires.word.0 s.requires.word.1
    f.new.places f.result f.ensures.places s.args.self.now.parity c.turn.new.parity s.requires.word.2.2 c.turn.ensures in
    let v = c.revote.ensures in
    ((c.requires.word.2.0, c.requires.word.2.1, turned, v.0, v.2), set-tallied (lent) _ _ _ _ turned v.0 v.1, (refl, refl))
