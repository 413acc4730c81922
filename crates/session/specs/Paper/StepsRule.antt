-- The flipping rule for iterative voting in single rounds, nothing altered in between. This rule is this project's own.
--   SteppedRight H S c xs h   == the sequence ends within the bound, decoded with the codeword sent
--   SteppingRule H S xs h     == so for every accepted opening near a codeword
--   AmpleStepping H S xs h    == the same for a round limit of L / 2 + 1 or more, however many bits are wrong
-- proofs/StepsRule.antt proves the last two. Assumes nothing.
use Rattle.std.specs.Prelude.{ℕ, ◌+◌, ◌/◌, ◌≤◌, ◌<◌, ◌≡◌, List, Float}
use Rattle.counting.specs.Paper.Lists.{over}
use Rattle.answers.specs.Paper.Answers.{accepted, report}
use Rattle.matrix.specs.Paper.Code.{Matrix}
use Rattle.quantiser_levels.specs.Paper.Samples.{Setting, largest}
use Rattle.iterative_rule.specs.Paper.Claims.{wrong_bits, wrong_decided, rounds_for, SamplesWithinHalf}
use Rattle.session_asking.specs.Paper.Asked.{Held, open_verdict}
use Rattle.session.specs.Paper.WholeBySteps.{stepped_on, asks_on}

-- so many accepted steps after the opening, none where no bit is wrong: decoded, rounds the steps, failing 0, changed the number of
-- wrong bits that had a level; the word is the codeword sent
pub record SteppedRight (H : Matrix) (S : Setting) (c : List ℕ) (xs : List Float) (h : Held) : Type 0 where
  pub steps : ℕ
  pub begun : 0 < wrong_bits H c xs → 0 < steps
  pub soon : steps ≤ rounds_for (largest S.bits) H.gamma (wrong_bits H c xs)
  pub accepts : (t : ℕ) → t < steps → asks_on H S xs h t ≡ accepted
  pub says : (stepped_on H S xs h steps).said ≡ report 0 steps 0 (wrong_decided H S c xs)
  pub word : (stepped_on H S xs h steps).held.word ≡ over c h.word

-- for every codeword so near, where the limit leaves the rounds for it
abbrev pub SteppingRule : Matrix → Setting → List Float → Held → Type 0
SteppingRule H S xs h =
    (c : List ℕ) → open_verdict H S xs h ≡ accepted → SamplesWithinHalf H S c xs
    → rounds_for (largest S.bits) H.gamma (wrong_bits H c xs) ≤ S.limit → SteppedRight H S c xs h

-- a limit of L / 2 + 1 always leaves them
abbrev pub AmpleStepping : Matrix → Setting → List Float → Held → Type 0
AmpleStepping H S xs h =
    (c : List ℕ) → open_verdict H S xs h ≡ accepted → SamplesWithinHalf H S c xs → largest S.bits / 2 + 1 ≤ S.limit → SteppedRight H S c xs h
