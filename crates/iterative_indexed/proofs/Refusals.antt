-- The answer of the call that takes an index, where matrix or index are refused.
--   refused-either     == the matrix or the index is refused: the number and place
-- Assumes nothing.
use mathlib.Core.Path.{◌≡◌, refl, ◌∙◌}
use mathlib.Core.List.{List}
use Prim.Native.Nat.{ℕ}
use lib.IntN.{ℤ}
use lib.Ieee.{Float}
use lib.ListN.{length}
use Rattle.answers.specs.Paper.Answers.{accepted, refused, Said, refusal}
use Rattle.matrix.specs.Paper.Code.{Matrix}
use Rattle.matrix_index_check.specs.Paper.Call.{indexed_verdict}
use Rattle.matrix_index_check.proofs.Claims.{one-refused}
use Rattle.quantiser_levels.specs.Paper.Samples.{Setting}
use Rattle.iterative_core.specs.Paper.Iterative.{samples_verdict}
use Rattle.iterative_indexed.specs.Paper.Call.{iterative_indexed_verdict, iterative_indexed_of, IterativeIndexedAnswered}

module _ (H : Matrix) (x : List ℕ) (S : Setting) (xs : List Float) (w : List ℕ) (ls : List ℤ) where
  -- a refusal keeps both buffers
  kept : (k p : ℕ) (said : Said) → iterative_indexed_verdict H x S xs (length w) (length ls) ≡ refused k p → said ≡ refusal k p
      → IterativeIndexedAnswered H x S xs said w w ls ls
  unfolding iterative_indexed_of
  kept k p said v e = record { answer = e ∙ rw v refl; word = rw v refl; levels = rw v refl }

  -- the matrix or the index is refused
  pub refused-either : (k p : ℕ) (said : Said) → indexed_verdict H x accepted ≡ refused k p → said ≡ refusal k p
      → IterativeIndexedAnswered H x S xs said w w ls ls
  unfolding iterative_indexed_verdict
  refused-either k p said c e = kept k p said (one-refused H x k p c (samples_verdict H.n S xs (length w) (length ls))) e
