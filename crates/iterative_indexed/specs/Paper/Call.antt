-- Iterative voting that takes matrix and index: what it says and leaves. (Document 02, card 1.)
--   iterative_indexed_verdict  == what is asked before: 1 to 5, 10, 6 to 8
--   iterative_indexed_of       == what it says
--   IterativeIndexedAnswered   == answer, word and levels; a refused call writes nothing
-- Assumes nothing.
use Rattle.std.specs.Prelude.{◌≡◌, List, ℕ, ℤ, Float, length}
use Rattle.answers.specs.Paper.Answers.{Verdict, Said, after, written}
use Rattle.matrix.specs.Paper.Code.{Matrix}
use Rattle.matrix_index_check.specs.Paper.Call.{indexed_verdict}
use Rattle.quantiser_levels.specs.Paper.Samples.{Setting}
use Rattle.iterative_core.specs.Paper.Iterative.{start_of, samples_verdict, report_at, end_from, iterative_word, iterative_levels}

-- refusals 1 to 5, 10, and those of setting and samples
unfoldable pub iterative_indexed_verdict : Matrix → List ℕ → Setting → List Float → ℕ → ℕ → Verdict
iterative_indexed_verdict H x S xs bytes levels = indexed_verdict H x (samples_verdict H.n S xs bytes levels)

-- the answer: where nothing is refused, that of iterative voting
unfoldable pub iterative_indexed_of : Matrix → List ℕ → Setting → List Float → ℕ → ℕ → Said
iterative_indexed_of H x S xs bytes levels = after (iterative_indexed_verdict H x S xs bytes levels) (report_at H (start_of S xs) (end_from H S xs))

pub record IterativeIndexedAnswered (H : Matrix) (x : List ℕ) (S : Setting) (xs : List Float) (said : Said) (w w' : List ℕ) (ls ls' : List ℤ) : Type 0 where
  pub answer : said ≡ iterative_indexed_of H x S xs (length w) (length ls)
  pub word : w' ≡ written (iterative_indexed_verdict H x S xs (length w) (length ls)) (iterative_word H S xs) w
  pub levels : ls' ≡ written (iterative_indexed_verdict H x S xs (length w) (length ls)) (iterative_levels H S xs) ls
