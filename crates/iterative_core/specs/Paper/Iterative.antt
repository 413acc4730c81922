-- Iterative soft voting on samples: the whole call. (Document 01, "Iterative voting"; refusals 1 to 8.)
--   start_of S xs                     == step 1: the hard bits and the levels
--   end_from H S xs                   == the k and the state with which the list ends
--   report_at H s e                   == the answer at the end e of a list that starts at s
--   samples_verdict n S xs ..         == what is asked of the setting, the samples and the written buffers, once the matrix is accepted: 6, 7, 8
--   iterative_verdict                 == what is asked before
--   iterative_of                      == what iterative voting says
--   iterative_word, iterative_levels   == what it writes
-- Assumes nothing.
use Rattle.std.specs.Prelude.{ℕ, not, List, ℤ, Float, length, get_or}
use Rattle.std.specs.Float.{nan}
use Rattle.counting.specs.Paper.Lists.{listed}
use Rattle.answers.specs.Paper.Answers.{Verdict, accepted, refuse_when, refuse_at, and_then, wrong_lengths, Said, report, outcome_by, after}
use Rattle.packed_word.specs.Paper.Packed.{bytes_for, pack}
use Rattle.matrix.specs.Paper.Code.{Matrix, failing}
use Rattle.matrix.specs.Paper.Check.{check_of}
use Rattle.quantiser_levels.specs.Paper.Samples.{Setting, setting_fits, largest, level_of, hard_bit, first_not_finite}
use Rattle.iterative_rounds.specs.Paper.Rounds.{State, state, End, end_of}
use Rattle.iterative_changed.specs.Paper.Changed.{decided_in, changed}

-- "k = 0; z is the hard bits; R is the levels"
unfoldable pub start_of : Setting → List Float → State
start_of S xs = state (hard_bit xs) (λ j. level_of S (get_or xs j nan))

-- the end of the list, from its start
unfoldable pub end_from : Matrix → Setting → List Float → End
end_from H S xs = end_of H (largest S.bits) 0 S.limit (start_of S xs)

-- "An answer holds: decoded or failed; rounds; failing ..; changed". "For samples, changed is .. the number of positions with a level other
-- than 0 at opening whose bit ends different": s holds the levels at opening, and the hard bits
unfoldable pub report_at : Matrix → State → End → Said
report_at H s e =
    report (outcome_by (failing H e.last.z)) e.k (failing H e.last.z) (changed H.n (decided_in s.R) e.last.z s.z)

-- refusals 6, 7 and 8: the written buffers have room for `bytes` bytes and `levels` levels
unfoldable pub samples_verdict : ℕ → Setting → List Float → ℕ → ℕ → Verdict
samples_verdict n S xs bytes levels =
    refuse_when 6 (not (setting_fits S))
    (refuse_when 7 (wrong_lengths (length xs) n bytes (bytes_for n) levels n) (refuse_at 8 (first_not_finite xs) (length xs) accepted))

-- refusals 1 to 8
unfoldable pub iterative_verdict : Matrix → Setting → List Float → ℕ → ℕ → Verdict
iterative_verdict H S xs bytes levels = and_then (check_of H) (samples_verdict H.n S xs bytes levels)

-- the answer
unfoldable pub iterative_of : Matrix → Setting → List Float → ℕ → ℕ → Said
iterative_of H S xs bytes levels = after (iterative_verdict H S xs bytes levels) (report_at H (start_of S xs) (end_from H S xs))

-- "The word is written in either outcome"
unfoldable pub iterative_word : Matrix → Setting → List Float → List ℕ
iterative_word H S xs = pack H.n (end_from H S xs).last.z

-- "Iterative voting also writes R as it then stands"
unfoldable pub iterative_levels : Matrix → Setting → List Float → List ℤ
iterative_levels H S xs = listed H.n (end_from H S xs).last.R
