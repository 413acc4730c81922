-- What the calls of iterative voting ask and leave.
--   CallLent H S xs w ls           == matrix, setting and samples are accepted, and there is room for the word and the levels
--   Started S xs ls ls' ..     == step 1: the levels are written, and the arrays hold the hard bits and the levels
--   Decoded H S xs ..          == answer, word and levels of the accepted call
-- Assumes nothing.
use Rattle.std.specs.Prelude.{◌≡◌, true, List, ℕ, ◌≤◌, ℤ, Float, length}
use Rattle.counting.specs.Paper.Lists.{over}
use Rattle.counting.specs.Places.{at}
use Rattle.answers.specs.Paper.Answers.{Said}
use Rattle.packed_word.specs.Paper.Packed.{bytes_for}
use Rattle.matrix.specs.Paper.Code.{Matrix}
use Rattle.matrix.specs.Paper.PlainCheck.{Accepted}
use Rattle.quantiser_levels.specs.Paper.Samples.{Setting, setting_fits, largest, levels_of, first_not_finite}
use Rattle.iterative_core.specs.Paper.Iterative.{start_of, end_from, report_at, iterative_word, iterative_levels}
use Rattle.iterative_rounds.specs.Runs.{Holds}

pub record CallLent (H : Matrix) (S : Setting) (xs : List Float) (w : List ℕ) (ls : List ℤ) : Type 0 where
  pub matrix : Accepted H
  pub setting : setting_fits S ≡ true
  pub samples : length xs ≡ H.n
  pub each_finite : first_not_finite xs ≡ length xs
  pub room_word : bytes_for H.n ≤ length w
  pub room_levels : H.n ≤ length ls

-- the levels ls become ls', and the arrays of the running decoder, z and x, become z' and x': the cells past the samples stay
pub record Started (S : Setting) (xs : List Float) (ls ls' : List ℤ) (z z' x x' : List ℕ) : Type 0 where
  pub levels : ls' ≡ over (levels_of S xs) ls
  pub holds : Holds (length xs) (largest S.bits) z' x' (start_of S xs)
  pub rest_word : (j : ℕ) → length xs ≤ j → at z' j ≡ at z j
  pub rest_levels : (j : ℕ) → length xs ≤ j → at x' j ≡ at x j

-- the word w becomes w' and the levels ls become ls'
pub record Decoded (H : Matrix) (S : Setting) (xs : List Float) (said : Said) (w w' : List ℕ) (ls ls' : List ℤ) : Type 0 where
  pub answer : said ≡ report_at H (start_of S xs) (end_from H S xs)
  pub word : w' ≡ over (iterative_word H S xs) w
  pub levels : ls' ≡ over (iterative_levels H S xs) ls
