-- The flipping rule for iterative voting in single rounds: stepping ends as the whole call does, and that obeys the rule.
--   stepping-rule   == stepping obeys the flipping rule for iterative voting
--   ample-stepping  == with a round limit of L / 2 + 1 however many bits are wrong
-- Assumes nothing.
use mathlib.Core.Path.{sym, ap, ◌∙◌}
use mathlib.Core.List.{List}
use Prim.Native.Nat.{ℕ}
use native.Mathlib.Omega.{arith}
use lib.Ieee.{Float}
use Rattle.answers.specs.Paper.Answers.{report}
use Rattle.matrix.specs.Paper.Code.{Matrix}
use Rattle.quantiser_levels.specs.Paper.Samples.{Setting, largest}
use Rattle.iterative_rule.specs.Paper.Claims.{wrong_bits, wrong_decided}
use Rattle.iterative_rule.proofs.FlippingRule.{iterative-rule}
use Rattle.iterative_rule.proofs.Ends.{rounds-most}
use Rattle.session_asking.specs.Paper.Asked.{Held, open_verdict}
use Rattle.session.specs.Paper.StepsRule.{SteppingRule, AmpleStepping}
use Rattle.session.proofs.WholeBySteps.{stepping-is-whole, steps-rounds}

-- stepping obeys the flipping rule for iterative voting
pub stepping-rule : (H : Matrix) (S : Setting) (xs : List Float) (h : Held) → SteppingRule H S xs h
unfolding open_verdict
stepping-rule H S xs h c e near time =
    let r = iterative-rule H S xs h.word h.levels c e near time in
    let a = stepping-is-whole H S xs h e in
    let k = steps-rounds H S xs h e in
    record {
      steps = a.steps;
      begun = λ wrong. omega (arith, r.begun (omega arith));
      soon = omega (arith, r.soon);
      accepts = a.accepts;
      says = a.says ∙ r.says ∙ ap (λ (x : ℕ). report 0 x 0 (wrong_decided H S c xs)) (sym k);
      word = a.word ∙ rw e at r.word;
    }

-- a limit of L / 2 + 1 leaves the rounds for it
pub ample-stepping : (H : Matrix) (S : Setting) (xs : List Float) (h : Held) → AmpleStepping H S xs h
ample-stepping H S xs h c e near limit =
    stepping-rule H S xs h c e near (omega (arith, rounds-most (largest S.bits) H.gamma (wrong_bits H c xs)))
