use native.Mathlib.Nat.{le_antisymm}
use native.Mathlib.Omega.{arith}
use Rattle.sheet_rows.proofs.Listing.{list-none, list-next, list_all}
use Rattle.sheet_rows.proofs.put_list.Goals as goal

pub loop-r-init : goal.loop-r-init
loop-r-init c =
    let s = c in
    list-none s.args.bytes.now s.args.h s.args.rho s.requires.0 s.args.list.now

pub loop-r-preserved : goal.loop-r-preserved
loop-r-preserved c =
    let s = c in
    let l = c.loop-r in
    list-next s.args.bytes.now s.args.h s.args.rho s.requires.0 s.args.list.now l.r l.list _ (omega arith) s.requires.1
    l.invariant c.put_block_row.ensures

pub returns : goal.returns
returns c =
    let s = c in
    let l = c.loop-r in
    list_all s.args.bytes.now s.args.h s.args.rho s.requires.0 s.args.list.now l.list
    (rw (le_antisymm l.auto.r-end (omega arith)) at l.invariant)
