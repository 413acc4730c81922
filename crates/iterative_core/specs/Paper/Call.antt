-- Iterative voting as a call: what it says and leaves. (Document 01, "Iterative voting".)
--   IterativeAnswered H S xs ..         == answer, word and levels of the whole call; a refused one writes nothing
-- Assumes nothing.
use Rattle.std.specs.Prelude.{◌≡◌, List, ℕ, ℤ, Float, length}
use Rattle.answers.specs.Paper.Answers.{Said, written}
use Rattle.matrix.specs.Paper.Code.{Matrix}
use Rattle.quantiser_levels.specs.Paper.Samples.{Setting}
use Rattle.iterative_core.specs.Paper.Iterative.{iterative_verdict, iterative_of, iterative_word, iterative_levels}

pub record IterativeAnswered (H : Matrix) (S : Setting) (xs : List Float) (said : Said) (w w' : List ℕ) (ls ls' : List ℤ) : Type 0 where
  pub answer : said ≡ iterative_of H S xs (length w) (length ls)
  pub word : w' ≡ written (iterative_verdict H S xs (length w) (length ls)) (iterative_word H S xs) w
  pub levels : ls' ≡ written (iterative_verdict H S xs (length w) (length ls)) (iterative_levels H S xs) ls
