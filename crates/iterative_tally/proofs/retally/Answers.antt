-- `iterative_tally::retally`: the parities become those of the new word, and its failing rows, added to a cleared array, are the votes.
use mathlib.Core.List.{List}
use Prim.Native.Nat.{ℕ}
use Rattle.counting.specs.Places.{at}
use Rattle.matrix.specs.Paper.Code.{Matrix, fails}
use Rattle.matrix.specs.Paper.Shapes.{matrix_of}
use Rattle.syndrome.specs.Places.{Places}
use Rattle.syndrome_update.proofs.KeptParities.{failing-places}
use Rattle.majority_votes.proofs.Sums.{failing-parts, failing-room, tallied}
use Rattle.iterative_tally.proofs.retally.Goals as goal

pub add_rows-requires : goal.add_rows-requires
add_rows-requires c =
    let lent : Matrix = matrix_of c.args.shape c.args.list.now in
    let new : ℕ → ℕ = at c.args.bits.now in
    let parities : List ℕ = c.renew.new.parity in
    let listed : Places (fails (lent) (new)) c.args.shape.m c.list_odd-count.new.rows c.list_odd-count.result = let r = c in
    failing-places (lent) (new) (parities) r.renew.ensures.renewed.parities _ c.list_odd-count.new.rows c.list_odd-count.result
    c.list_odd-count.ensures in
    let o = c in
    let s = c in (
      failing-parts (lent) s.requires.accepted.0 (new) o.list_odd-count.new.rows o.list_odd-count.result (listed),
      failing-room (lent) s.requires.accepted.0 (new) o.list_odd-count.new.rows o.list_odd-count.result (listed),
    )

pub returns : goal.returns
returns c =
    let lent : Matrix = matrix_of c.args.shape c.args.list.now in
    let new : ℕ → ℕ = at c.args.bits.now in
    let parities : List ℕ = c.renew.new.parity in
    let listed : Places (fails (lent) (new)) c.args.shape.m c.list_odd-count.new.rows c.list_odd-count.result = let r = c in
    failing-places (lent) (new) (parities) r.renew.ensures.renewed.parities _ c.list_odd-count.new.rows c.list_odd-count.result
    c.list_odd-count.ensures in
    let o = c in
    let r = o in
    let s = c in record {
      renewed = r.renew.ensures.renewed;
      tallied = tallied (lent) s.requires.accepted.0 (new) o.list_odd-count.new.rows o.list_odd-count.result (listed)
          c.add_rows.new.votes c.add_rows.ensures;
    }
