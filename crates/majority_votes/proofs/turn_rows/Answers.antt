use mathlib.Core.Path.{◌≡◌}
use Prim.Native.Nat.{◌*◌, ◌<◌}
use native.Mathlib.Nat.{le_antisymm}
use native.Mathlib.Omega.{arith}
use Rattle.std.proofs.lemmas.List.{get_or-take, length-take-le}
use Rattle.counting.specs.Places.{at, among}
use Rattle.majority_votes.specs.Tallies.{of_rows}
use Rattle.majority_votes.proofs.Sums.{rows_none, rows_more, rows_next}
use Rattle.majority_votes.proofs.turn_rows.Goals as goal

pub loop-i-init : goal.loop-i-init
loop-i-init g c =
    let a = c.args in
    let t = g.T.Turn in
    t.laws.none _ _ (t.laws.room_long _ _ c.requires.1) (rows_none a.list.now a.rho a.rows.now)

pub turn_row-requires : goal.turn_row-requires
turn_row-requires g c =
    let a = c.args in
    let o = c.loop-i in
    let listed : o.i-index < a.count = omega (arith, c.loop-i-test.true, length-take-le a.count a.rows.now (omega (arith, c.told-rows, c.requires.0.few))) in
    rw (get_or-take a.count a.rows.now o.i-index 0 listed) (
      c.requires.0.part o.i-index listed,
      g.T.Turn.laws.left (of_rows a.list.now a.rho a.rows.now o.i-index) (among a.list.now (at a.rows.now o.i-index * a.rho) a.rho)
          (of_rows a.list.now a.rho a.rows.now a.count) a.votes.now o.votes
          (λ j. rows_next a.list.now a.rho a.rows.now a.count o.i-index j listed) c.requires.1 o.invariant,
    )

pub loop-i-preserved : goal.loop-i-preserved
loop-i-preserved g c =
    let a = c.args in
    let o = c.loop-i in
    let listed : o.i-index < a.count = omega (arith, c.loop-i-test.true, length-take-le a.count a.rows.now (omega (arith, c.told-rows, c.requires.0.few))) in
    g.T.Turn.laws.join (of_rows a.list.now a.rho a.rows.now o.i-index) (among a.list.now (at a.rows.now o.i-index * a.rho) a.rho) _ a.votes.now o.votes _
    (rows_more a.list.now a.rho a.rows.now o.i-index) o.invariant (rw (get_or-take a.count a.rows.now o.i-index 0 listed) at c.turn_row.ensures)

pub returns : goal.returns
returns g c =
    let a = c.args in
    let l = length-take-le a.count a.rows.now (omega (arith, c.told-rows, c.requires.0.few)) in
    let all : c.loop-i.i-index ≡ a.count = le_antisymm (omega (arith, l)) (omega (arith, l)) in
    rw all at c.loop-i.invariant
