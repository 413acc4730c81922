use mathlib.Core.Path.{◌≡◌}
use Prim.Native.Nat.{ℕ, ◌+◌, ◌*◌, ◌%◌, ◌/◌}
use native.Mathlib.Nat.{le_antisymm}
use native.Mathlib.Omega.{arith}
use Rattle.counting.specs.Places.{among}
use Rattle.majority_votes.proofs.Sums.{among_none, among_parts, among_within, part-within}
use Rattle.majority_votes.proofs.turn_row.Goals as goal

pub loop-e-init : goal.loop-e-init
loop-e-init g c =
    let a = c.args in
    let t = g.T.Turn in
    t.laws.none _ _ (t.laws.room_long _ _ c.requires.1) (among_none a.list.now a.from)

pub turn_some-requires : goal.turn_some-requires
turn_some-requires g c =
    let a = c.args in
    let o = c.loop-e in
    let k : ℕ = 8 * o.e in (
      part-within a.list.now a.from a.count k 8 (omega arith) c.requires.0,
      g.T.Turn.laws.left (among a.list.now a.from k) (among a.list.now (a.from + k) 8) (among a.list.now a.from a.count) a.votes.now o.votes
          (λ j. among_within a.list.now a.from a.count k 8 j (omega arith)) c.requires.1 o.invariant,
    )

pub loop-e-preserved : goal.loop-e-preserved
loop-e-preserved g c =
    let a = c.args in
    let o = c.loop-e in
    let k : ℕ = 8 * o.e in
    g.T.Turn.laws.join (among a.list.now a.from k) (among a.list.now (a.from + k) 8) _ a.votes.now o.votes _
    (λ j. among_parts a.list.now a.from k 8 (8 * (o.e + 1)) j (omega arith)) o.invariant c.turn_some.ensures

pub turn_some-requires-2 : goal.turn_some-requires-2
turn_some-requires-2 g c =
    let a = c.args in
    let o = c.loop-e in
    let all : o.e ≡ a.count / 8 = le_antisymm (omega arith) (omega arith) in
    let k : ℕ = 8 * (a.count / 8) in (
      part-within a.list.now a.from a.count k (a.count % 8) (omega arith) c.requires.0,
      g.T.Turn.laws.left (among a.list.now a.from k) (among a.list.now (a.from + k) (a.count % 8)) (among a.list.now a.from a.count) a.votes.now o.votes
          (λ j. among_within a.list.now a.from a.count k (a.count % 8) j (omega arith)) c.requires.1 (rw all at o.invariant),
    )

pub returns : goal.returns
returns g c =
    let a = c.args in
    let o = c.loop-e in
    let all : o.e ≡ a.count / 8 = le_antisymm (omega arith) (omega arith) in
    let k : ℕ = 8 * (a.count / 8) in
    g.T.Turn.laws.join (among a.list.now a.from k) (among a.list.now (a.from + k) (a.count % 8)) _ a.votes.now o.votes _
    (λ j. among_parts a.list.now a.from k (a.count % 8) a.count j (omega arith)) (rw all at o.invariant) c.turn_some-2.ensures
