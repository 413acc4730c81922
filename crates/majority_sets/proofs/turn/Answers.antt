-- `majority_sets::turn`: one by one, or the first of them so and the others in eights.
use Prim.Native.Nat.{◌*◌, ◌/◌, ◌%◌}
use native.Mathlib.Omega.{arith}
use Rattle.matrix.specs.Paper.Shapes.{matrix_of}
use Rattle.majority_votes.specs.Tallies.{of_rows}
use Rattle.majority_sets.specs.Sets.{listed_votes}
use Rattle.majority_sets.proofs.Bytes.{room-part}
use Rattle.majority_sets.proofs.Shares.{sets-there, sets-six, first-parts, all-votes}
use Rattle.majority_sets.proofs.turn.Goals as goal

pub turn_rows-requires-2 : goal.turn_rows-requires-2
turn_rows-requires-2 g c =
    let s = c in
    let a = s.args in
    let H = matrix_of a.shape a.list.now in
    let e = all-votes H s.requires.0 a.supports.now s.requires.1 a.rows.now a.count s.requires.2 in
    let first = of_rows a.list.now a.shape.rho a.rows.now (a.count % 8) in
    let room = room-part g.T.Turn.laws (first) (of_rows a.list.now a.shape.rho a.rows.now a.count) a.votes.now (λ j. omega (arith, e j)) s.requires.3 in (
      first-parts H s.requires.0 a.supports.now s.requires.1 a.rows.now a.count s.requires.2,
      room,
    )

pub turn_eights-requires : goal.turn_eights-requires
turn_eights-requires g c =
    let s = c in
    let a = s.args in
    let H = matrix_of a.shape a.list.now in
    let e = all-votes H s.requires.0 a.supports.now s.requires.1 a.rows.now a.count s.requires.2 in (
      s.requires.0.sizes.n_most,
      omega (arith, s.requires.2.parts.few),
      sets-there H s.requires.0 a.supports.now s.requires.1 a.rows.now a.count s.requires.2,
      sets-six H s.requires.0 a.supports.now s.requires.1 a.rows.now a.count s.requires.2,
      g.T.Turn.laws.left (of_rows a.list.now a.shape.rho a.rows.now (a.count % 8))
          (listed_votes a.shape.n a.supports.now a.rows.now (a.count % 8) (8 * (a.count / 8)))
          (of_rows a.list.now a.shape.rho a.rows.now a.count) a.votes.now _ (λ j. omega (arith, e j)) s.requires.3 c.turn_rows-2.ensures,
    )

pub returns : goal.returns
returns g c =
    let s = c in
    let a = s.args in
    let H = matrix_of a.shape a.list.now in
    g.T.Turn.laws.join (of_rows a.list.now a.shape.rho a.rows.now (a.count % 8))
    (listed_votes a.shape.n a.supports.now a.rows.now (a.count % 8) (8 * (a.count / 8))) _ a.votes.now _ _
    (all-votes H s.requires.0 a.supports.now s.requires.1 a.rows.now a.count s.requires.2) c.turn_rows-2.ensures c.turn_eights.ensures
