-- One-step voting that takes matrix and index: what it says and leaves. (Document 02, card 1.)
--   one_step_indexed_verdict  == what is asked before: 1 to 5, 10, 7, 9
--   one_step_indexed_of       == what it says
--   OneStepIndexedAnswered    == answer and word; a refused call writes nothing
-- Assumes nothing.
use Rattle.std.specs.Prelude.{ℕ, ◌≡◌, List, length}
use Rattle.answers.specs.Paper.Answers.{Verdict, Said, after, written}
use Rattle.packed_word.specs.Paper.Packed.{bit_at}
use Rattle.matrix.specs.Paper.Code.{Matrix}
use Rattle.matrix_index_check.specs.Paper.Call.{indexed_verdict}
use Rattle.syndrome.specs.Paper.Failing.{word_verdict}
use Rattle.majority_logic.specs.Paper.OneStep.{one_step_report, one_step_word}

-- refusals 1 to 5, 10, and those of the received word
unfoldable pub one_step_indexed_verdict : Matrix → List ℕ → List ℕ → ℕ → Verdict
one_step_indexed_verdict H x w room = indexed_verdict H x (word_verdict H.n w room H.n)

-- the answer: where nothing is refused, that of one-step voting
unfoldable pub one_step_indexed_of : Matrix → List ℕ → List ℕ → ℕ → Said
one_step_indexed_of H x w room = after (one_step_indexed_verdict H x w room) (one_step_report H (bit_at w))

pub record OneStepIndexedAnswered (H : Matrix) (x w old new : List ℕ) (s : Said) : Type 0 where
  pub says : s ≡ one_step_indexed_of H x w (length old)
  pub word : new ≡ written (one_step_indexed_verdict H x w (length old)) (one_step_word H w) old
