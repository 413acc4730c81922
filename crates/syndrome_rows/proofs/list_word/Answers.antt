use native.Mathlib.Omega.{arith}
use lib.Count.{count_trailing_zeros}
use Rattle.syndrome_rows.proofs.Lowest.{lowest, cleared-less}
use Rattle.syndrome_rows.proofs.Listing.{listing_none, listing_step, listing-all, listing-place}
use Rattle.syndrome_rows.proofs.list_word.Goals as goal

pub loop-y-init : goal.loop-y-init
loop-y-init c = (omega arith, listing_none c.args.x c.args.first c.args.t c.args.rows.now)

pub offset_bounds-rows-t : goal.offset_bounds-rows-t
offset_bounds-rows-t c =
    let a = c.args in
    let o = c.loop-y in
    let next = lowest 64 o.y (omega arith) o.invariant.0 in
    omega (arith, listing-place a.x a.first a.t a.rows.now o.y o.rows o.t (count_trailing_zeros 64 o.y) o.invariant.1 next c.requires)

pub bounds-rows-t : goal.bounds-rows-t
bounds-rows-t c =
    let a = c.args in
    let o = c.loop-y in
    let next = lowest 64 o.y (omega arith) o.invariant.0 in
    let place = listing-place a.x a.first a.t a.rows.now o.y o.rows o.t (count_trailing_zeros 64 o.y) o.invariant.1 next c.requires in
    omega (arith, place, c.requires.long)

pub overflow_add-t : goal.overflow_add-t
overflow_add-t c =
    let a = c.args in
    let o = c.loop-y in
    let next = lowest 64 o.y (omega arith) o.invariant.0 in
    omega (arith, listing-place a.x a.first a.t a.rows.now o.y o.rows o.t (count_trailing_zeros 64 o.y) o.invariant.1 next c.requires)

pub loop-y-preserved : goal.loop-y-preserved
loop-y-preserved c =
    let a = c.args in
    let o = c.loop-y in
    let b = count_trailing_zeros 64 o.y in
    let next = lowest 64 o.y (omega arith) o.invariant.0 in (
      omega (arith, cleared-less 64 o.y b next, o.invariant.0),
      listing_step a.x a.first a.t a.rows.now o.y o.rows o.t b o.invariant.1 next,
    )

pub returns : goal.returns
returns c =
    let a = c.args in
    let o = c.loop-y in
    listing-all a.x a.first a.t a.rows.now o.y o.rows o.t (omega arith) o.invariant.1
