use native.Mathlib.Nat.{le_antisymm}
use native.Mathlib.Omega.{arith}
use Rattle.quantiser_guess.proofs.Guesses.{fits-none, fits-step}
use Rattle.quantiser_guess.proofs.all_fit.Goals as goal

pub loop-j-init : goal.loop-j-init
loop-j-init c = (omega arith, fits-none _ _ _)

pub overflow_cast-guess : goal.overflow_cast-guess
overflow_cast-guess c =
    let l = c in
    omega (arith, l.requires.3.below l.loop-j.j (omega arith))

pub fits-ok-requires : goal.fits-ok-requires
fits-ok-requires c =
    let l = c in
    let p = l.requires in
    omega (arith, p.2, p.3.below l.loop-j.j (omega arith))

pub loop-j-preserved : goal.loop-j-preserved
loop-j-preserved c =
    let l = c in
    let a = l.args in
    let n = c.number32-p in (
      omega arith,
      fits-step a.table.now a.bytes.now a.guess.now l.loop-j.j n.result l.loop-j.ok c.fits-ok.result l.loop-j.invariant.1 n.ensures
          c.fits-ok.ensures,
    )

pub returns : goal.returns
returns c = rw (le_antisymm c.loop-j.invariant.0 (omega arith)) at c.loop-j.invariant.1
