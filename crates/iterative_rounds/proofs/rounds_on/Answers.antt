use mathlib.Core.Path.{◌≡◌, refl}
use native.Mathlib.Omega.{arith}
use Rattle.matrix.specs.Paper.Shapes.{matrix_of}
use Rattle.syndrome_update.proofs.KeptParities.{zero_word}
use Rattle.iterative_rounds.proofs.Runs.{going-starts, going-lent, going-ends, going_step}
use Rattle.iterative_rounds.proofs.rounds_on.Goals as goal

pub retally-failing-requires : goal.retally-failing-requires
retally-failing-requires g c =
    let z = c in
    record { accepted = z.requires.run_lent.0.matrix; word = (zero_word (matrix_of z.args.shape z.args.list.now), z.requires.run_lent.0.word, z.requires.kept) }

pub loop-k-init : goal.loop-k-init
loop-k-init g c =
    let z = c in
    let t = c.retally-failing.ensures in
    (going-starts _ _ z.args.limit _ _ z.requires.run_lent.0 _ _ t.1, t.0, g.met.T.Tally.stays_so _ _, refl)

pub returns-then-failing-eq0 : goal.returns-then-failing-eq0
returns-then-failing-eq0 g c =
    let l = c in
    let e : l.loop-k.failing ≡ 0 = omega arith in (
      rw e at (going-ends _ _ _ _ _ l.requires.run_lent.0 _ _ _ _ _ l.loop-k.invariant.0 (λ h. absurd (omega arith))),
      g.met.T.Tally.stays_on _ _ _ _ l.retally-failing.ensures.2 l.loop-k.invariant.2,
    )

pub round-failing-requires : goal.round-failing-requires
round-failing-requires g c =
    let l = c in
    let i = l.loop-k.invariant in
    record { run_lent = (going-lent _ _ _ _ _ l.requires.run_lent.0 _ _ _ _ _ i.0, l.requires.run_lent.1); kept = (i.1, i.3) }

pub loop-k-preserved : goal.loop-k-preserved
loop-k-preserved g c =
    let l = c in
    let t = c.round-failing.ensures in (
      going_step _ _ _ _ _ l.requires.run_lent.0 _ _ _ _ _
          l.loop-k.invariant.0 (omega arith) (omega arith) _ _ _ _ t.0.moved t.0.tallied,
      t.1,
      g.met.T.Tally.stays_on _ _ _ _ l.loop-k.invariant.2 t.2,
      t.3,
    )

pub returns : goal.returns
returns g c =
    let l = c in
    let e : l.loop-k.k ≡ l.args.limit = omega arith in
    (rw e at (going-ends _ _ _ _ _ l.requires.run_lent.0 _ _ _ _ _ l.loop-k.invariant.0 (λ h. e)), g.met.T.Tally.stays_on _ _ _ _ l.retally-failing.ensures.2 l.loop-k.invariant.2)
