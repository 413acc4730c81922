use mathlib.Core.Path.{◌∙◌}
use native.Mathlib.Omega.{arith}
use lib.Seq.{get_or-take}
use Rattle.counting.proofs.Writes.{over-long}
use Rattle.syndrome_sets.proofs.Turns.{listed-none, listed-step}
use Rattle.syndrome_sets.proofs.turn_listed.Goals as goal

pub loop-j-init : goal.loop-j-init
loop-j-init g c = listed-none c.args.columns.now c.args.places.now g.row.WORDS c.args.parity.now (omega (arith, c.requires.0, c.requires.3))

pub turn_column-requires : goal.turn_column-requires
turn_column-requires g c =
    let o = c.loop-j in
    let e = get_or-take c.args.count c.args.places.now o.j-index 0 (omega arith) in
    let at-column = c.requires.2 o.j-index (omega arith) in (
      c.requires.0,
      omega (arith, e, at-column.few),
      omega (arith, e, c.requires.0, at-column.room),
      over-long g.row.WORDS _ _ o.p o.invariant (omega (arith, c.requires.0, c.requires.3)) ∙ c.requires.3,
    )

pub loop-j-preserved : goal.loop-j-preserved
loop-j-preserved g c =
    let a = c.args in
    let o = c.loop-j in
    let e = get_or-take a.count a.places.now o.j-index 0 (omega arith) in
    listed-step a.columns.now a.places.now g.row.WORDS o.j-index a.parity.now o.p c.turn_column.new.parity _ e o.invariant
    c.turn_column.ensures
