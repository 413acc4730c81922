-- `iterative_tally::renew`: the rows of the flipped bits' columns turned over, or all rows done anew.
use native.Mathlib.Omega.{arith}
use Rattle.counting.specs.Places.{at}
use Rattle.matrix.specs.Paper.Code.{Matrix}
use Rattle.matrix.specs.Paper.Shapes.{matrix_of}
use Rattle.syndrome.proofs.Parity.{checks}
use Rattle.syndrome_update.proofs.KeptParities.{columns, turned-renewed, rows-renewed, word_below}
use Rattle.iterative_tally.proofs.renew.Goals as goal

pub list_flips-flipped-requires : goal.list_flips-flipped-requires
list_flips-flipped-requires c =
    let lent : Matrix = matrix_of c.args.shape c.args.list.now in
    let s = c in (
      s.requires.accepted.0.sizes.n_most,
      word_below (lent) s.args.before.now s.requires.word.0,
      word_below (lent) s.args.bits.now
          s.requires.word.1,
      omega arith,
    )

pub row_parities-requires : goal.row_parities-requires
row_parities-requires c =
    let lent : Matrix = matrix_of c.args.shape c.args.list.now in
    let s = c in
    (checks (lent) s.requires.accepted.0 (at s.args.bits.now) s.requires.word.1, s.requires.word.2.bits.long)

pub returns-then-shape-n : goal.returns-then-shape-n
returns-then-shape-n c =
    let lent : Matrix = matrix_of c.args.shape c.args.list.now in
    let s = c in
    let f = c.list_flips-flipped in record {
      renewed = rows-renewed (lent) (at s.args.bits.now) s.args.parity.now c.row_parities.new.parity
          s.requires.accepted.0.sizes.m_most s.requires.word.2.bits c.row_parities.ensures;
      flips = f.result;
      listed = f.ensures;
    }

pub turn_listed-requires : goal.turn_listed-requires
turn_listed-requires c =
    let lent : Matrix = matrix_of c.args.shape c.args.list.now in
    let s = c in
    let f = c.list_flips-flipped in (
      columns (lent) s.requires.accepted.0 s.args.index.now s.requires.accepted.1,
      omega (arith, f.ensures.places.few, s.requires.accepted.0.sizes.n_most),
      f.ensures.places.below,
      s.requires.word.2.bits,
    )

pub returns : goal.returns
returns c =
    let lent : Matrix = matrix_of c.args.shape c.args.list.now in
    let s = c in
    let f = c.list_flips-flipped in record {
      renewed = turned-renewed (lent) s.requires.accepted.0 s.args.index.now s.requires.accepted.1 (at s.args.before.now) (at s.args.bits.now)
          s.requires.word.0 s.requires.word.1 f.new.places f.result f.ensures.places s.args.parity.now
          c.turn_listed.new.parity s.requires.word.2 c.turn_listed.ensures;
      flips = f.result;
      listed = f.ensures;
    }
