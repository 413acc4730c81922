-- One-step voting as a call: what it says and leaves. (Document 01, "One-step voting".)
--   OneStepAnswered H w old new s      == what one-step voting says and writes, refused calls too
-- Assumes nothing.
use Rattle.std.specs.Prelude.{ℕ, ◌≡◌, List, length}
use Rattle.answers.specs.Paper.Answers.{Said, written}
use Rattle.matrix.specs.Paper.Code.{Matrix}
use Rattle.majority_logic.specs.Paper.OneStep.{one_step_verdict, one_step_of, one_step_word}

pub record OneStepAnswered (H : Matrix) (w old new : List ℕ) (s : Said) : Type 0 where
  pub says : s ≡ one_step_of H w (length old)
  pub word : new ≡ written (one_step_verdict H w (length old)) (one_step_word H w) old
