-- `majority_sets::turn_eights`: the votes are turned by the counts, as bytes.
use Prim.Native.Nat.{◌*◌}
use native.Mathlib.Omega.{arith}
use Rattle.majority_sets.specs.Sets.{listed_votes, first_bytes}
use Rattle.majority_sets.proofs.Bytes.{votes_bytes, room-part, turned_same}
use Rattle.majority_sets.proofs.turn_eights.Goals as goal

pub turn_bytes-requires : goal.turn_bytes-requires
turn_bytes-requires g c =
    let a = c.args in
    let e = votes_bytes a.n c.requires.0 a.supports.now a.rows.now a.from (8 * a.eights) _ c.count_eights.ensures in (
      c.requires.0,
      room-part g.T.Turn.laws _ (listed_votes a.n a.supports.now a.rows.now a.from (8 * a.eights)) a.votes.now (λ j. omega (arith, e j)) c.requires.4,
    )

pub returns : goal.returns
returns g c =
    let a = c.args in
    turned_same g.T.Turn.laws (first_bytes a.n c.count_eights.new.bytes) (listed_votes a.n a.supports.now a.rows.now a.from (8 * a.eights)) a.votes.now _
    (votes_bytes a.n c.requires.0 a.supports.now a.rows.now a.from (8 * a.eights) _ c.count_eights.ensures) c.turn_bytes.ensures
