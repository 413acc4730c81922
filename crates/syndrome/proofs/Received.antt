-- What is asked of a received word, by its tests, and what it leaves.
--   word-buffer   == refusal 7 where the lengths are wrong
--   word-spare    == else refusal 9 by the spare places alone
--   word_fits     == where it is accepted, the word has its bytes, each buffer what is needed, and no spare place is set
--   fits_word     == and where that holds, it is accepted
-- Assumes nothing.
use mathlib.Core.Path.{◌≡◌}
use mathlib.Core.Bool.{true, false}
use mathlib.Core.List.{List}
use Prim.Native.Nat.{ℕ, ◌≤◌}
use lib.ListN.{length}
use Rattle.answers.specs.Paper.Answers.{Verdict, accepted, refused, refuse_when, wrong_lengths}
use Rattle.answers.proofs.Verdicts.{passed, lengths-fit, fit-lengths}
use Rattle.packed_word.specs.Paper.Packed.{bytes_for, spare_set}
use Rattle.syndrome.specs.Paper.Failing.{word_verdict}

module _ (n : ℕ) (w : List ℕ) (bytes room : ℕ) where
  -- refusal 7 where the lengths are wrong
  pub word-buffer : wrong_lengths (length w) (bytes_for n) bytes (bytes_for n) room n ≡ true → refused 7 0 ≡ word_verdict n w bytes room
  unfolding word_verdict
  word-buffer e = rw e

  -- else refusal 9 by the spare places alone
  pub word-spare : (v : Verdict) → wrong_lengths (length w) (bytes_for n) bytes (bytes_for n) room n ≡ false
      → v ≡ refuse_when 9 (spare_set n w) accepted → v ≡ word_verdict n w bytes room
  unfolding word_verdict
  word-spare v e q = rw e q

  -- where it is accepted, the word has its bytes, each buffer what is needed, and no spare place is set
  pub word_fits : word_verdict n w bytes room ≡ accepted → (length w ≡ bytes_for n) × (bytes_for n ≤ bytes) × (n ≤ room) × (spare_set n w ≡ false)
  unfolding word_verdict
  word_fits e =
      let p7 = passed (wrong_lengths (length w) (bytes_for n) bytes (bytes_for n) room n) 7 0 (refuse_when 9 (spare_set n w) accepted) e in
      let fit = lengths-fit (length w) (bytes_for n) bytes (bytes_for n) room n p7.0 in
      (fit.0, fit.1, fit.2, (passed (spare_set n w) 9 0 accepted p7.1).0)

  -- and where that holds, it is accepted
  pub fits_word : length w ≡ bytes_for n → bytes_for n ≤ bytes → n ≤ room → spare_set n w ≡ false → word_verdict n w bytes room ≡ accepted
  unfolding word_verdict
  fits_word long b r clear = rw (fit-lengths (length w) (bytes_for n) bytes (bytes_for n) room n long b r, clear)
