-- What is asked of a received word, and the count of its failing checks. (Document 01, "The code and the block"; refusals 1 to 5, 7 and 9.)
--   word_verdict n w bytes room   == what is asked of a received word and the written buffers, once the matrix is accepted: 7, 9
--   failing_verdict H w    == what is asked before the count
--   failing_of H w         == what the count says
-- Assumes nothing.
use Rattle.std.specs.Prelude.{ℕ, List, length}
use Rattle.answers.specs.Paper.Answers.{Verdict, accepted, refuse_when, and_then, wrong_lengths, Said, count, after}
use Rattle.packed_word.specs.Paper.Packed.{bit_at, bytes_for, spare_set}
use Rattle.matrix.specs.Paper.Code.{Matrix, failing}
use Rattle.matrix.specs.Paper.Check.{check_of}

-- refusals 7 and 9: "a received word not exactly its bytes, or a written buffer shorter than needed", then "a spare place set".
-- A word's buffer has `bytes` bytes and a levels' buffer room for `room`; one that the call does not write has just what would be needed.
unfoldable pub word_verdict : ℕ → List ℕ → ℕ → ℕ → Verdict
word_verdict n w bytes room =
    refuse_when 7 (wrong_lengths (length w) (bytes_for n) bytes (bytes_for n) room n) (refuse_when 9 (spare_set n w) accepted)

-- refusals 1 to 5, 7 and 9; nothing is written
unfoldable pub failing_verdict : Matrix → List ℕ → Verdict
failing_verdict H w = and_then (check_of H) (word_verdict H.n w (bytes_for H.n) H.n)

-- "a count of failing checks in a received word"
unfoldable pub failing_of : Matrix → List ℕ → Said
failing_of H w = after (failing_verdict H w) (count (failing H (bit_at w)))
