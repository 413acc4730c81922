-- A call of document 01's worked examples, and what the definitions yield for it.
--   Call      == a matrix and what is lent with it
--   Yields    == what is said, and what the written buffers then hold
--   yields    == the same from its parts
--   made c    == what the definitions yield for the call c
-- Assumes nothing.
use Rattle.std.specs.Prelude.{ℕ, List, [], ℤ, Float, length}
use Rattle.answers.specs.Paper.Answers.{Said, acceptance, after, written}
use Rattle.matrix.specs.Paper.Code.{Matrix}
use Rattle.matrix.specs.Paper.Check.{check_of}
use Rattle.syndrome.specs.Paper.Failing.{failing_of}
use Rattle.majority_logic.specs.Paper.OneStep.{one_step_verdict, one_step_of, one_step_word}
use Rattle.quantiser_levels.specs.Paper.Samples.{Setting}
use Rattle.iterative_core.specs.Paper.Iterative.{iterative_verdict, iterative_of, iterative_word, iterative_levels}

-- the matrix check; the count of failing checks of a received word; one-step voting on one; iterative voting on samples.
-- The written buffers are lent last
pub data Call : Type 0 where
  checking : Matrix → Call
  counting : Matrix → List ℕ → Call
  voting : Matrix → List ℕ → List ℕ → Call
  decoding : Matrix → Setting → List Float → List ℕ → List ℤ → Call

-- what is said, and what the written buffers then hold
pub record Yields : Type 0 where
  pub said : Said
  pub word : List ℕ
  pub levels : List ℤ

abbrev pub yields : Said → List ℕ → List ℤ → Yields
yields s w l = record { said = s; word = w; levels = l }

unfoldable pub made : Call → Yields
made (checking H) = yields (after (check_of H) acceptance) [] []
made (counting H w) = yields (failing_of H w) [] []
made (voting H w old) = yields (one_step_of H w (length old)) (written (one_step_verdict H w (length old)) (one_step_word H w) old) []
made (decoding H S xs old levels) =
    yields (iterative_of H S xs (length old) (length levels))
    (written (iterative_verdict H S xs (length old) (length levels)) (iterative_word H S xs) old)
    (written (iterative_verdict H S xs (length old) (length levels)) (iterative_levels H S xs) levels)
