-- The call's answer, by what is asked before it.
--   refused-matrix   == the matrix is refused: the check's number and place, and nothing is written
--   refused-shape    == no sheet with that Z describes it: refusal 12, and nothing is written
--   refused-short    == the buffer is too short: refusal 7, and nothing is written
--   stored-sheet     == else the sheet stands at the front of the buffer, and its length is answered
-- Assumes nothing.
use mathlib.Core.Path.{◌≡◌, refl, ap, ◌∙◌}
use mathlib.Core.Bool.{true, false}
use mathlib.Core.List.{List}
use Prim.Native.Nat.{ℕ, ◌≤◌, ◌<◌}
use borrow.Author.Tests.{lt-ltb, le-ltb}
use lib.ListN.{length}
use Rattle.counting.specs.Paper.Lists.{over}
use Rattle.answers.specs.Paper.Answers.{refusal, stored, accepted, refused}
use Rattle.matrix.specs.Paper.Code.{Matrix}
use Rattle.matrix.specs.Paper.Check.{check_of}
use Rattle.matrix.specs.Paper.PlainCheck.{Accepted}
use Rattle.matrix.proofs.PlainCheck.{is-accepted}
use Rattle.sheet.specs.Paper.MatrixSheet.{sheet_of, describes}
use Rattle.sheet.specs.Paper.Calls.{to_sheet_verdict, to_sheet_of}
use Rattle.sheet_from_list.specs.Paper.Call.{SheetAnswered}

module _ (H : Matrix) (Z : ℕ) (old : List ℕ) where
  -- a refusal writes nothing
  kept : (k x : ℕ) → to_sheet_verdict H Z (length old) ≡ refused k x → SheetAnswered H Z old old (refusal k x)
  unfolding to_sheet_of
  kept k x q = record { says = rw q refl; sheet = rw q refl }

  -- the matrix is refused: the check's number and place
  pub refused-matrix : (k x : ℕ) → check_of H ≡ refused k x → SheetAnswered H Z old old (refusal k x)
  unfolding to_sheet_verdict
  refused-matrix k x q = kept k x (rw q refl)

  module _ (a : Accepted H) where
    -- no sheet with that Z describes it
    pub refused-shape : describes H Z ≡ false → SheetAnswered H Z old old (refusal 12 0)
    unfolding to_sheet_verdict
    refused-shape d = kept 12 0 (rw (is-accepted H a, d) refl)

    module _ (d : describes H Z ≡ true) where
      -- the buffer is too short
      pub refused-short : length old < length (sheet_of H Z) → SheetAnswered H Z old old (refusal 7 0)
      unfolding to_sheet_verdict
      refused-short l = kept 7 0 (rw (is-accepted H a, d, lt-ltb (length old) (length (sheet_of H Z)) l) refl)

      -- it is not
      long-enough : length (sheet_of H Z) ≤ length old → to_sheet_verdict H Z (length old) ≡ accepted
      unfolding to_sheet_verdict
      long-enough l = rw (is-accepted H a, d, le-ltb (length old) (length (sheet_of H Z)) l) refl

      -- then the sheet stands at the front of the buffer, and its length is answered
      pub stored-sheet : (new : List ℕ) (k : ℕ) → k ≡ length (sheet_of H Z) → length (sheet_of H Z) ≤ length old → new ≡ over (sheet_of H Z) old
          → SheetAnswered H Z old new (stored k)
      unfolding to_sheet_of
      stored-sheet new k e l q = record { says = ap stored e ∙ rw (long-enough l) refl; sheet = q ∙ rw (long-enough l) refl }
