-- One-step voting on a received word. (Document 01, "One-step voting"; refusals 1 to 5, 7 and 9.)
--   step_word, step_rounds      == the word after the vote, and the rounds
--   one_step_report H z         == outcome, rounds, failing and changed
--   one_step_verdict H w room   == what is asked before the vote
--   one_step_of H w room        == what one-step voting says
--   one_step_word H w           == the bytes that it writes
-- Assumes nothing.
use Rattle.std.specs.Prelude.{ℕ, cond, List, eqb}
use Rattle.answers.specs.Paper.Answers.{Verdict, and_then, Said, report, outcome_by, after}
use Rattle.packed_word.specs.Paper.Packed.{bit_at, pack, distance}
use Rattle.matrix.specs.Paper.Code.{Matrix, failing}
use Rattle.matrix.specs.Paper.Check.{check_of}
use Rattle.syndrome.specs.Paper.Failing.{word_verdict}
use Rattle.majority_logic.specs.Paper.Votes.{flipped}

-- "If no check of the received word fails, the word is decoded as it is .. Else each bit .. is flipped"
unfoldable pub step_word : Matrix → (ℕ → ℕ) → ℕ → ℕ
step_word H z j = cond (eqb (failing H z) 0) (z j) (flipped H z j)

-- "rounds 0", else "Rounds is 1"
unfoldable pub step_rounds : Matrix → (ℕ → ℕ) → ℕ
step_rounds H z = cond (eqb (failing H z) 0) 0 1

-- "If no check of the new word fails it is decoded, else failed"
unfoldable pub one_step_report : Matrix → (ℕ → ℕ) → Said
one_step_report H z =
    report (outcome_by (failing H (step_word H z))) (step_rounds H z) (failing H (step_word H z)) (distance H.n (step_word H z) z)

-- refusals 1 to 5, 7 and 9: a word is written to a buffer of `room` bytes, and no levels
unfoldable pub one_step_verdict : Matrix → List ℕ → ℕ → Verdict
one_step_verdict H w room = and_then (check_of H) (word_verdict H.n w room H.n)

-- the answer
unfoldable pub one_step_of : Matrix → List ℕ → ℕ → Said
one_step_of H w room = after (one_step_verdict H w room) (one_step_report H (bit_at w))

-- "The word is written in either outcome"
unfoldable pub one_step_word : Matrix → List ℕ → List ℕ
one_step_word H w = pack H.n (step_word H (bit_at w))
