-- The quantiser as a call: what it says and leaves. (Document 01, "Samples and levels".)
--   Quantised S xs v ..       == the answer v, the levels and the word are those of `quantise_verdict`, `levels_of` and `hard_word`
-- Assumes nothing.
use Rattle.std.specs.Prelude.{◌≡◌, List, ℕ, ℤ, Float, length}
use Rattle.answers.specs.Paper.Answers.{Verdict, written}
use Rattle.quantiser_levels.specs.Paper.Samples.{Setting, levels_of, hard_word, quantise_verdict}

-- a refused call writes nothing, by `written`
pub record Quantised (S : Setting) (xs : List Float) (said : Verdict) (ls ls' : List ℤ) (w w' : List ℕ) : Type 0 where
  pub answer : said ≡ quantise_verdict S xs (length ls) (length w)
  pub levels : ls' ≡ written (quantise_verdict S xs (length ls) (length w)) (levels_of S xs) ls
  pub word : w' ≡ written (quantise_verdict S xs (length ls) (length w)) (hard_word xs) w
