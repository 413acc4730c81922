use mathlib.Core.Path.{sym}
use Prim.Native.Nat.{ℕ, ◌+◌}
use native.Mathlib.Omega.{arith}
use Rattle.counting.specs.Paper.Sum.{same}
use Rattle.counting.specs.Places.{at, among}
use Rattle.counting.proofs.Sums.{same_refl, same-ne}
use Rattle.majority_votes.proofs.Sums.{among_none, among_more, among_next}
use Rattle.majority_votes.proofs.turn_some.Goals as goal

pub loop-k-init : goal.loop-k-init
loop-k-init g c =
    let a = c.args in
    let t = g.T.Turn in
    t.laws.none _ _ (t.laws.room_long _ _ c.requires.1) (among_none a.list.now a.from)

pub turn-requires : goal.turn-requires
turn-requires g c =
    let a = c.args in
    let o = c.loop-k in
    let x : ℕ = at a.list.now (a.from + o.k) in
    let t = g.T.Turn in
    t.laws.byte (same x) o.votes x 1 (omega (arith, same_refl x))
    (t.laws.left (among a.list.now a.from o.k) (same x) (among a.list.now a.from a.count) a.votes.now o.votes
    (λ j. among_next a.list.now a.from a.count o.k j (omega arith)) c.requires.1 o.invariant)

pub loop-k-preserved : goal.loop-k-preserved
loop-k-preserved g c =
    let a = c.args in
    let o = c.loop-k in
    let x : ℕ = at a.list.now (a.from + o.k) in
    let t = g.T.Turn in
    t.laws.join (among a.list.now a.from o.k) (same x) _ a.votes.now o.votes _ (among_more a.list.now a.from o.k) o.invariant
    (t.laws.store (same x) o.votes x 1 c.turn.result (c.requires.0.below o.k (omega arith)) (t.laws.turned_long _ _ _ o.invariant) (same_refl x)
    (λ j ne. same-ne x j (λ e. ne (sym e))) c.turn.ensures)
