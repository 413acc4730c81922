-- Which answer the count of failing checks gives, by what is asked before it.
--   failing-matrix    == the matrix is refused: the check's number and place
--   failing-refused   == what is asked of the received word refuses it
--   failing-says      == nothing is refused: the count
-- Assumes nothing.
use mathlib.Core.Path.{◌≡◌, sym, ap}
use mathlib.Core.List.{List}
use Prim.Native.Nat.{ℕ}
use Rattle.answers.specs.Paper.Answers.{Verdict, accepted, refused, refusal, count, after}
use Rattle.packed_word.specs.Paper.Packed.{bit_at, bytes_for}
use Rattle.matrix.specs.Paper.Code.{Matrix, failing}
use Rattle.matrix.specs.Paper.Check.{check_of}
use Rattle.syndrome.specs.Paper.Failing.{word_verdict, failing_verdict, failing_of}

module _ (H : Matrix) (w : List ℕ) where
  says : (v : Verdict) → failing_verdict H w ≡ v → failing_of H w ≡ after v (count (failing H (bit_at w)))
  unfolding failing_of
  says v e = ap (λ (x : Verdict). after x (count (failing H (bit_at w)))) e

  -- the matrix is refused: the check's number and place
  pub failing-matrix : (k x : ℕ) → refused k x ≡ check_of H → refusal k x ≡ failing_of H w
  unfolding failing_verdict
  failing-matrix k x e = sym (says (refused k x) (rw (sym e)))

  module _ (a : check_of H ≡ accepted) where
    -- what is asked of the received word refuses it
    pub failing-refused : (k x : ℕ) → word_verdict H.n w (bytes_for H.n) H.n ≡ refused k x → refusal k x ≡ failing_of H w
    unfolding failing_verdict
    failing-refused k x e = sym (says (refused k x) (rw (a, e)))

    -- nothing is refused: the count
    pub failing-says : word_verdict H.n w (bytes_for H.n) H.n ≡ accepted → count (failing H (bit_at w)) ≡ failing_of H w
    unfolding failing_verdict
    failing-says e = sym (says accepted (rw (a, e)))
