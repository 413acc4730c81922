-- What a call of iterative voting that is not refused was lent.
--   samples-lent   == setting and samples are accepted with an accepted matrix, and there is room for the word and the levels
--   verdict-lent   == the same of the whole call
-- Assumes nothing.
use mathlib.Core.Path.{◌≡◌}
use mathlib.Core.Bool.{not}
use mathlib.Core.List.{List}
use Prim.Native.Nat.{ℕ, ◌≤◌}
use native.Mathlib.Nat.{le_antisymm}
use borrow.Author.Tests.{ltb-false, not-false}
use lib.IntN.{ℤ}
use lib.Ieee.{Float}
use lib.ListN.{length}
use Rattle.counting.proofs.Searches.{first-le}
use Rattle.answers.specs.Paper.Answers.{accepted}
use Rattle.answers.proofs.Verdicts.{passed, passed_on, lengths-fit}
use Rattle.packed_word.specs.Paper.Packed.{bytes_for}
use Rattle.matrix.specs.Paper.Code.{Matrix}
use Rattle.matrix.specs.Paper.PlainCheck.{Accepted}
use Rattle.matrix.proofs.PlainCheck.{accepted-is}
use Rattle.quantiser_levels.specs.Paper.Samples.{Setting, setting_fits, not_finite, first_not_finite}
use Rattle.iterative_core.specs.Paper.Iterative.{samples_verdict, iterative_verdict}
use Rattle.iterative_core.specs.Calls.{CallLent}

module _ (H : Matrix) (S : Setting) (xs : List Float) (w : List ℕ) (ls : List ℤ) where
  -- each of the refusals 6 to 8 is passed
  pub samples-lent : Accepted H → samples_verdict H.n S xs (length w) (length ls) ≡ accepted → CallLent H S xs w ls
  unfolding samples_verdict
  samples-lent a e =
      let p6 = passed (not (setting_fits S)) 6 0 _ e in
      let p7 = passed _ 7 0 _ p6.1 in
      let p8 = passed _ 8 _ _ p7.1 in
      let none : length xs ≤ first_not_finite xs = ltb-false (first_not_finite xs) (length xs) p8.0 in
      let fit = lengths-fit (length xs) H.n (length w) (bytes_for H.n) (length ls) H.n p7.0 in
      record {
        matrix = a;
        setting = not-false (setting_fits S) p6.0;
        samples = fit.0;
        each_finite = le_antisymm (first-le (not_finite xs) (length xs)) none;
        room_word = fit.1;
        room_levels = fit.2;
      }

  -- the same of the whole call
  pub verdict-lent : iterative_verdict H S xs (length w) (length ls) ≡ accepted → CallLent H S xs w ls
  unfolding iterative_verdict
  verdict-lent e = let p5 = passed_on _ _ e in samples-lent (accepted-is H p5.0) p5.1
