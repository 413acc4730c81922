use native.Mathlib.Nat.{le_antisymm}
use native.Mathlib.Omega.{arith}
use Rattle.quantiser_guess.proofs.Floats.{least-no-nan}
use Rattle.quantiser_guess.proofs.Guesses.{guessed-none, guessed-step}
use Rattle.quantiser_guess.proofs.guess_all.Goals as goal

pub loop-j-init : goal.loop-j-init
loop-j-init c = (omega arith, guessed-none _ c.requires.3)

pub float_from_bits-p : goal.float_from_bits-p
float_from_bits-p c = least-no-nan c.bounded-p.result c.bounded-p.ensures

pub loop-j-preserved : goal.loop-j-preserved
loop-j-preserved c =
    let l = c in (
      omega arith,
      guessed-step l.loop-j.j l.loop-j.guess l.loop-j.invariant.1 (omega arith) c.guessed.result c.guessed.ensures,
    )

pub returns : goal.returns
returns c = rw (le_antisymm c.loop-j.invariant.0 (omega arith)) at c.loop-j.invariant.1
