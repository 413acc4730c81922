-- The answer of the call that takes an index, by what is asked before it.
--   verdict-alike      == with the matrix's own index it asks what iterative voting asks
--   says-alike         == and says what iterative voting says
--   answered-own       == it is the matrix's own: what iterative voting answers
--   answered-alike     == so with the matrix's own index the call is iterative voting
--   samples-below      == setting and samples are refused by no number above 8
--   ten-exactly        == the call is refused by 10 exactly where the matrix is accepted and the index is another
-- Assumes nothing.
use mathlib.Core.Path.{◌≡◌, sym, ap, ◌∙◌}
use mathlib.Core.Bool.{not}
use mathlib.Core.List.{List}
use Prim.Native.Nat.{ℕ, ◌≤◌}
use native.Mathlib.Omega.{arith}
use lib.Dec.{ltb}
use lib.IntN.{ℤ}
use lib.Ieee.{Float}
use lib.ListN.{length}
use Rattle.answers.specs.Paper.Answers.{Verdict, accepted, refused, Said, after, written, wrong_lengths}
use Rattle.packed_word.specs.Paper.Packed.{bytes_for}
use Rattle.matrix.specs.Paper.Code.{Matrix}
use Rattle.matrix.specs.Paper.Check.{check_of}
use Rattle.matrix_index.specs.Paper.Index.{index_of}
use Rattle.matrix_index_check.specs.Paper.Call.{indexed_verdict}
use Rattle.matrix_index_check.proofs.Claims.{numbered, step-number, own-alike, ten-else, ten-only}
use Rattle.quantiser_levels.specs.Paper.Samples.{Setting, setting_fits, first_not_finite}
use Rattle.iterative_core.specs.Paper.Iterative.{start_of, samples_verdict, iterative_verdict, iterative_of, report_at, end_from, iterative_word, iterative_levels}
use Rattle.iterative_core.specs.Paper.Call.{IterativeAnswered}
use Rattle.iterative_indexed.specs.Paper.Call.{iterative_indexed_verdict, iterative_indexed_of, IterativeIndexedAnswered}

module _ (H : Matrix) (x : List ℕ) (S : Setting) (xs : List Float) (w : List ℕ) (ls : List ℤ) where
  -- with the matrix's own index it asks what iterative voting asks
  pub verdict-alike : x ≡ index_of H → iterative_indexed_verdict H x S xs (length w) (length ls) ≡ iterative_verdict H S xs (length w) (length ls)
  unfolding iterative_indexed_verdict iterative_verdict
  verdict-alike e =
      ap (λ (y : List ℕ). indexed_verdict H y (samples_verdict H.n S xs (length w) (length ls))) e
      ∙ own-alike H (samples_verdict H.n S xs (length w) (length ls))

  -- and says what iterative voting says
  pub says-alike : x ≡ index_of H → iterative_indexed_of H x S xs (length w) (length ls) ≡ iterative_of H S xs (length w) (length ls)
  unfolding iterative_indexed_of iterative_of
  says-alike e = ap (λ (v : Verdict). after v (report_at H (start_of S xs) (end_from H S xs))) (verdict-alike e)

  module _ (said : Said) (w' : List ℕ) (ls' : List ℤ) (own : x ≡ index_of H) where
    -- it is the matrix's own: what iterative voting answers
    pub answered-own : IterativeAnswered H S xs said w w' ls ls' → IterativeIndexedAnswered H x S xs said w w' ls ls'
    answered-own d =
        record {
          answer = d.answer ∙ sym (says-alike own);
          word = d.word ∙ ap (λ (v : Verdict). written v (iterative_word H S xs) w) (sym (verdict-alike own));
          levels = d.levels ∙ ap (λ (v : Verdict). written v (iterative_levels H S xs) ls) (sym (verdict-alike own));
        }

    -- so with the matrix's own index the call is iterative voting
    pub answered-alike : IterativeIndexedAnswered H x S xs said w w' ls ls' → IterativeAnswered H S xs said w w' ls ls'
    answered-alike d =
        record {
          answer = d.answer ∙ says-alike own;
          word = d.word ∙ ap (λ (v : Verdict). written v (iterative_word H S xs) w) (verdict-alike own);
          levels = d.levels ∙ ap (λ (v : Verdict). written v (iterative_levels H S xs) ls) (verdict-alike own);
        }

-- setting and samples are refused by no number above 8
pub samples-below : (n : ℕ) (S : Setting) (xs : List Float) (bytes levels : ℕ) → numbered (samples_verdict n S xs bytes levels) ≤ 8
unfolding samples_verdict
samples-below n S xs bytes levels =
    step-number (not (setting_fits S)) 6 0 8 _ (omega arith)
    (step-number (wrong_lengths (length xs) n bytes (bytes_for n) levels n) 7 0 8 _ (omega arith)
    (step-number (ltb (first_not_finite xs) (length xs)) 8 _ 8 accepted (omega arith) (omega arith)))

module _ (H : Matrix) (x : List ℕ) (S : Setting) (xs : List Float) (bytes levels : ℕ) where
  -- the call is refused by 10 exactly where the matrix is accepted and the index is another
  pub ten-exactly : (iterative_indexed_verdict H x S xs bytes levels ≡ refused 10 0 → (check_of H ≡ accepted) × (x ≡ index_of H → ⊥))
      × (check_of H ≡ accepted → (x ≡ index_of H → ⊥) → iterative_indexed_verdict H x S xs bytes levels ≡ refused 10 0)
  unfolding iterative_indexed_verdict
  ten-exactly =
      let rest = samples_verdict H.n S xs bytes levels in (
        ten-only H x rest 0 (λ q e. omega (arith, ap numbered e, samples-below H.n S xs bytes levels)),
        ten-else H x rest,
      )
