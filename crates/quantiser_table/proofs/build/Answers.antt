use mathlib.Core.Path.{refl, sym}
use Prim.Native.Nat.{◌+◌, ◌*◌, ◌^◌, ◌<◌}
use native.Mathlib.Omega.{arith}
use lib.ListN.{length}
use Rattle.counting.proofs.Writes.{over_none, over-step, over-long}
use Rattle.quantiser_table.specs.Scales.{least_by}
use Rattle.quantiser_table.proofs.Tables.{table_filled}
use Rattle.quantiser_table.proofs.build.Goals as goal

pub scale_of-scale-requires : goal.scale_of-scale-requires
scale_of-scale-requires c = c.requires.0

pub loop-q-init : goal.loop-q-init
loop-q-init c = (omega arith, refl, sym (over_none (least_by _ _ _) c.args.table.now))

pub least_pattern-p-requires : goal.least_pattern-p-requires
least_pattern-p-requires c = (c.scale_of-scale.ensures.narrow, c.near.ensures)

pub loop-q-preserved : goal.loop-q-preserved
loop-q-preserved c =
    let l = c.loop-q in
    let z = c in
    let s = c.scale_of-scale.result in
    let f = least_by s.gain s.top (s.sig * 2 ^ s.shift) in
    let room : l.q < length z.args.table.now = omega arith in
    let e = over-step l.q f z.args.table.now l.table l.invariant.2 c.least_pattern-p.result room c.least_pattern-p.ensures in
    (omega arith, over-long (l.q + 1) f z.args.table.now _ e (omega arith), e)

pub shape_of-table : goal.shape_of-table
shape_of-table c = c.loop-q.invariant.1

pub returns : goal.returns
returns c =
    let l = c.loop-q in
    let z = c in
    table_filled c.scale_of-scale.ensures l.q z.args.table.now l.table (omega arith) z.requires.1 l.invariant.2
