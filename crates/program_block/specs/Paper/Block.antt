-- What decoding one block says, and its line. (Document 01, "Worked by hand": the paragraph on the program.)
--   block_verdict xs            == what is asked of a block's samples: refusal 8
--   block_said H S xs           == what decoding a block says
--   block_line H S i bs         == the line of block i, whose samples are the bytes bs
-- Assumes nothing.
use Rattle.std.specs.Prelude.{ℕ, List, Float, length}
use Rattle.answers.specs.Paper.Answers.{Verdict, accepted, refuse_at, Said, after}
use Rattle.matrix.specs.Paper.Code.{Matrix}
use Rattle.quantiser_levels.specs.Paper.Samples.{Setting, first_not_finite}
use Rattle.iterative_core.specs.Paper.Iterative.{start_of, end_from, report_at, iterative_word}
use Rattle.program_text.specs.Paper.Output.{block_text}
use Rattle.byte_numbers.specs.Paper.Numbers.{samples_in}

-- "a sample infinite or not a number. Place: first such index"
unfoldable pub block_verdict : List Float → Verdict
block_verdict xs = refuse_at 8 (first_not_finite xs) (length xs) accepted

-- "Blocks are decoded by iterative voting"
unfoldable pub block_said : Matrix → Setting → List Float → Said
block_said H S xs = after (block_verdict xs) (report_at H (start_of S xs) (end_from H S xs))

-- "then one line a block"
unfoldable pub block_line : Matrix → Setting → ℕ → List ℕ → List ℕ
block_line H S i bs = block_text i (block_said H S (samples_in bs)) (iterative_word H S (samples_in bs))
