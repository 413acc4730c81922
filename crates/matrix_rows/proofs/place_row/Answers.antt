use mathlib.Core.Path.{ap}
use native.Mathlib.Omega.{arith}
use lib.ListN.{length}
use Rattle.matrix.specs.Paper.Code.{Matrix}
use Rattle.matrix.specs.Paper.Shapes.{matrix_of}
use Rattle.matrix_rows.proofs.Filling.{put-none, put_next, put-long, room-is, row-entry, word_fits}
use Rattle.matrix_rows.proofs.place_row.Goals as goal

pub loop-j-init : goal.loop-j-init
loop-j-init c = put-none (matrix_of c.args.shape c.args.list.now) c.args.i c.args.rows.now

pub place_entry-requires : goal.place_entry-requires
place_entry-requires c =
    let lent : Matrix = matrix_of c.args.shape c.args.list.now in
    let s = c in
    let l = c.loop-j in
    let e = row-entry lent s.args.i l.j-index c.loop-j-test.true in
    let room = room-is lent s.requires.2 in (
      omega (arith, s.requires.1, s.requires.0.sizes.m_most),
      omega (arith, e.1, s.requires.0.rows.below s.args.i l.j-index s.requires.1 e.0, s.requires.0.sizes.n_most),
      omega (arith, s.requires.1, room, ap length l.invariant, put-long lent s.args.i l.j-index s.args.rows.now),
      word_fits lent s.args.i s.requires.1 s.args.rows.now s.requires.2 s.requires.3 l.j-index _ e.0 e.1 l.rows l.invariant,
    )

pub loop-j-preserved : goal.loop-j-preserved
loop-j-preserved c =
    let lent : Matrix = matrix_of c.args.shape c.args.list.now in
    let s = c in
    let l = c.loop-j in
    put_next lent s.args.i l.j-index _ s.args.rows.now l.rows _ (row-entry lent s.args.i l.j-index c.loop-j-test.true).1 l.invariant c.place_entry.ensures
