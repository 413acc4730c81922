-- The answer of the call that takes an index, by what is asked before it.
--   refused-either     == the matrix or the index is refused: the number and place
--   verdict-alike      == with the matrix's own index it asks what one-step voting asks
--   says-alike         == and says what one-step voting says
--   answered-own       == it is the matrix's own: what one-step voting answers
--   answered-alike     == so with the matrix's own index the call is one-step voting
--   word_below         == a received word is refused by no number above 9
--   ten-exactly        == the call is refused by 10 exactly where the matrix is accepted and the index is another
-- Assumes nothing.
use mathlib.Core.Path.{◌≡◌, refl, sym, ap, ◌∙◌}
use mathlib.Core.List.{List}
use Prim.Native.Nat.{ℕ, ◌≤◌}
use native.Mathlib.Omega.{arith}
use lib.ListN.{length}
use Rattle.answers.specs.Paper.Answers.{Verdict, accepted, refused, Said, refusal, after, written, wrong_lengths}
use Rattle.packed_word.specs.Paper.Packed.{bit_at, bytes_for, spare_set}
use Rattle.matrix.specs.Paper.Code.{Matrix}
use Rattle.matrix.specs.Paper.Check.{check_of}
use Rattle.matrix_index.specs.Paper.Index.{index_of}
use Rattle.matrix_index_check.specs.Paper.Call.{indexed_verdict}
use Rattle.matrix_index_check.proofs.Claims.{numbered, step-number, own-alike, ten-else, ten-only, one-refused}
use Rattle.syndrome.specs.Paper.Failing.{word_verdict}
use Rattle.majority_logic.specs.Paper.OneStep.{one_step_verdict, one_step_of, one_step_report, one_step_word}
use Rattle.one_step_core.specs.Paper.Call.{OneStepAnswered}
use Rattle.one_step_indexed.specs.Paper.Call.{one_step_indexed_verdict, one_step_indexed_of, OneStepIndexedAnswered}

module _ (H : Matrix) (x w old : List ℕ) where
  -- a refusal keeps the buffer
  kept : (k p : ℕ) (said : Said) → one_step_indexed_verdict H x w (length old) ≡ refused k p → said ≡ refusal k p → OneStepIndexedAnswered H x w old old said
  unfolding one_step_indexed_of
  kept k p said v e = record { says = e ∙ rw v refl; word = rw v refl }

  -- the matrix or the index is refused
  pub refused-either : (k p : ℕ) (said : Said) → indexed_verdict H x accepted ≡ refused k p → said ≡ refusal k p → OneStepIndexedAnswered H x w old old said
  unfolding one_step_indexed_verdict
  refused-either k p said c e = kept k p said (one-refused H x k p c (word_verdict H.n w (length old) H.n)) e

  -- with the matrix's own index it asks what one-step voting asks
  pub verdict-alike : x ≡ index_of H → one_step_indexed_verdict H x w (length old) ≡ one_step_verdict H w (length old)
  unfolding one_step_indexed_verdict one_step_verdict
  verdict-alike e =
      ap (λ (y : List ℕ). indexed_verdict H y (word_verdict H.n w (length old) H.n)) e ∙ own-alike H (word_verdict H.n w (length old) H.n)

  -- and says what one-step voting says
  pub says-alike : x ≡ index_of H → one_step_indexed_of H x w (length old) ≡ one_step_of H w (length old)
  unfolding one_step_indexed_of one_step_of
  says-alike e = ap (λ (v : Verdict). after v (one_step_report H (bit_at w))) (verdict-alike e)

  module _ (new : List ℕ) (said : Said) (own : x ≡ index_of H) where
    -- it is the matrix's own: what one-step voting answers
    pub answered-own : OneStepAnswered H w old new said → OneStepIndexedAnswered H x w old new said
    answered-own d =
        record {
          says = d.says ∙ sym (says-alike own);
          word = d.word ∙ ap (λ (v : Verdict). written v (one_step_word H w) old) (sym (verdict-alike own));
        }

    -- so with the matrix's own index the call is one-step voting
    pub answered-alike : OneStepIndexedAnswered H x w old new said → OneStepAnswered H w old new said
    answered-alike d =
        record {
          says = d.says ∙ says-alike own;
          word = d.word ∙ ap (λ (v : Verdict). written v (one_step_word H w) old) (verdict-alike own);
        }

-- a received word is refused by no number above 9
pub word_below : (n : ℕ) (w : List ℕ) (bytes room : ℕ) → numbered (word_verdict n w bytes room) ≤ 9
unfolding word_verdict
word_below n w bytes room =
    step-number (wrong_lengths (length w) (bytes_for n) bytes (bytes_for n) room n) 7 0 9 _ (omega arith)
    (step-number (spare_set n w) 9 0 9 accepted (omega arith) (omega arith))

module _ (H : Matrix) (x w : List ℕ) (room : ℕ) where
  -- the call is refused by 10 exactly where the matrix is accepted and the index is another
  pub ten-exactly : (one_step_indexed_verdict H x w room ≡ refused 10 0 → (check_of H ≡ accepted) × (x ≡ index_of H → ⊥))
      × (check_of H ≡ accepted → (x ≡ index_of H → ⊥) → one_step_indexed_verdict H x w room ≡ refused 10 0)
  unfolding one_step_indexed_verdict
  ten-exactly =
      let rest = word_verdict H.n w room H.n in
      (ten-only H x rest 0 (λ q e. omega (arith, ap numbered e, word_below H.n w room H.n)), ten-else H x rest)
