use native.Mathlib.Omega.{arith}
use Rattle.counting.specs.Places.{at}
use Rattle.majority_sets.specs.Sets.{first_bytes}
use Rattle.majority_sets.proofs.Bytes.{bytes_none, bytes_more, bytes_next, one_byte, byte-here, byte-other}
use Rattle.majority_sets.proofs.turn_bytes.Goals as goal

pub loop-j-init : goal.loop-j-init
loop-j-init g c =
    let t = g.T.Turn in
    t.laws.none _ _ (t.laws.room_long _ _ c.requires.1) (bytes_none c.args.bytes.now)

pub turn-requires : goal.turn-requires
turn-requires g c =
    let a = c.args in
    let o = c.loop-j in
    let t = g.T.Turn in
    t.laws.byte (one_byte o.j a.bytes.now) o.votes o.j (at a.bytes.now o.j) (omega (arith, byte-here o.j a.bytes.now))
    (t.laws.left (first_bytes o.j a.bytes.now) (one_byte o.j a.bytes.now) (first_bytes a.n a.bytes.now) a.votes.now o.votes
    (λ j. bytes_next a.n o.j a.bytes.now j (omega arith)) c.requires.1 o.invariant)

pub loop-j-preserved : goal.loop-j-preserved
loop-j-preserved g c =
    let a = c.args in
    let o = c.loop-j in
    let t = g.T.Turn in
    t.laws.join (first_bytes o.j a.bytes.now) (one_byte o.j a.bytes.now) _ a.votes.now o.votes _ (bytes_more o.j a.bytes.now) o.invariant
    (t.laws.store (one_byte o.j a.bytes.now) o.votes o.j (at a.bytes.now o.j) c.turn.result (omega (arith, c.requires.0))
    (t.laws.turned_long _ _ _ o.invariant) (byte-here o.j a.bytes.now) (byte-other o.j a.bytes.now) c.turn.ensures)
