-- A setting that stands for another gives the same answers and writes the same.
--   unfit-verdict     == a setting out of range is refused as 6, after the matrix check
--   iterative-alike   == what iterative voting answers by a setting's stand-in it answers by the setting
--   indexed-alike     == the same with an index
--   quantise-alike    == what the quantiser answers by a setting's stand-in it answers by the setting
-- Assumes nothing.
use mathlib.Core.Path.{◌≡◌, refl, sym, subst, ◌∙◌}
use mathlib.Core.Bool.{false}
use mathlib.Core.List.{List}
use Prim.Native.Nat.{ℕ}
use lib.IntN.{ℤ}
use lib.Ieee.{Float}
use lib.ListN.{length}
use Rattle.counting.proofs.Searches.{cases}
use Rattle.answers.specs.Paper.Answers.{Verdict, accepted, refused, Said, and_then, after, written}
use Rattle.matrix.specs.Paper.Code.{Matrix}
use Rattle.matrix.specs.Paper.Check.{check_of}
use Rattle.quantiser_levels.specs.Paper.Samples.{Setting, setting_fits, quantise_verdict}
use Rattle.quantiser.specs.Paper.Call.{Quantised}
use Rattle.iterative_core.specs.Paper.Iterative.{samples_verdict, iterative_verdict, iterative_of, iterative_word, iterative_levels}
use Rattle.iterative_core.specs.Paper.Call.{IterativeAnswered}
use Rattle.matrix_index.specs.Paper.Index.{own_verdict}
use Rattle.matrix_index_check.specs.Paper.Call.{indexed_verdict}
use Rattle.iterative_indexed.specs.Paper.Call.{iterative_indexed_verdict, iterative_indexed_of, IterativeIndexedAnswered}
use Rattle.ffi_codes.specs.Settings.{StandsFor}
use Rattle.ffi.proofs.Bounds.{and-then-twice}

-- what a refusal by 6 says and writes does not turn on the setting
module _ (v : Verdict) where
  says_six : (s s' : Said) → after (and_then v (refused 6 0)) s ≡ after (and_then v (refused 6 0)) s'
  says_six s s' = go v
    where
      go : (v : Verdict) → after (and_then v (refused 6 0)) s ≡ after (and_then v (refused 6 0)) s'
      go accepted = refl
      go (refused k x) = refl

  keeps-six : {A : Type 0} (new old : List A) → written (and_then v (refused 6 0)) new old ≡ old
  keeps-six new old = go v
    where
      go : (v : Verdict) → written (and_then v (refused 6 0)) new old ≡ old
      go accepted = refl
      go (refused k x) = refl

-- a setting out of range is refused as 6, after the matrix check
pub unfit-verdict : (H : Matrix) (S : Setting) (xs : List Float) (b l : ℕ) → setting_fits S ≡ false
    → iterative_verdict H S xs b l ≡ and_then (check_of H) (refused 6 0)
unfolding iterative_verdict samples_verdict
unfit-verdict H S xs b l e = rw e

-- the same, after matrix and index
unfit-indexed : (H : Matrix) (x : List ℕ) (S : Setting) (xs : List Float) (b l : ℕ) → setting_fits S ≡ false
    → iterative_indexed_verdict H x S xs b l ≡ and_then (and_then (check_of H) (own_verdict H x)) (refused 6 0)
unfolding iterative_indexed_verdict indexed_verdict samples_verdict
unfit-indexed H x S xs b l e = rw e (sym (and-then-twice (check_of H) (own_verdict H x) (refused 6 0)))

unfit-quantise : (S : Setting) (xs : List Float) (l b : ℕ) → setting_fits S ≡ false → quantise_verdict S xs l b ≡ refused 6 0
unfolding quantise_verdict
unfit-quantise S xs l b e = rw e

module _ (S T : Setting) (st : StandsFor S T) (xs : List Float) (said : Said) (w w' : List ℕ) (ls ls' : List ℤ) where
  -- what iterative voting answers by a setting's stand-in it answers by the setting
  pub iterative-alike : (H : Matrix) → IterativeAnswered H T xs said w w' ls ls' → IterativeAnswered H S xs said w w' ls ls'
  unfolding iterative_of
  iterative-alike H a = cases (setting_fits S) (λ y. subst (λ (X : Setting). IterativeAnswered H X xs said w w' ls ls') (st.same y) a) unfit
    where
      unfit : setting_fits S ≡ false → IterativeAnswered H S xs said w w' ls ls'
      unfit n =
          let v_t = unfit-verdict H T xs (length w) (length ls) (st.fits ∙ n) in
          let v_s = unfit-verdict H S xs (length w) (length ls) n in
          record {
            answer = a.answer ∙ rw (v_t, v_s) (says_six (check_of H) _ _);
            word = a.word ∙ rw (v_t, v_s) (keeps-six (check_of H) (iterative_word H T xs) w ∙ sym (keeps-six (check_of H) (iterative_word H S xs) w));
            levels = a.levels ∙ rw (v_t, v_s) (keeps-six (check_of H) (iterative_levels H T xs) ls ∙ sym (keeps-six (check_of H) (iterative_levels H S xs) ls));
          }

  -- the same with an index
  pub indexed-alike : (H : Matrix) (x : List ℕ) → IterativeIndexedAnswered H x T xs said w w' ls ls' → IterativeIndexedAnswered H x S xs said w w' ls ls'
  unfolding iterative_indexed_of
  indexed-alike H x a = cases (setting_fits S) (λ y. subst (λ (X : Setting). IterativeIndexedAnswered H x X xs said w w' ls ls') (st.same y) a) unfit
    where
      asked : Verdict
      asked = and_then (check_of H) (own_verdict H x)

      unfit : setting_fits S ≡ false → IterativeIndexedAnswered H x S xs said w w' ls ls'
      unfit n =
          let v_t = unfit-indexed H x T xs (length w) (length ls) (st.fits ∙ n) in
          let v_s = unfit-indexed H x S xs (length w) (length ls) n in
          record {
            answer = a.answer ∙ rw (v_t, v_s) (says_six asked _ _);
            word = a.word ∙ rw (v_t, v_s) (keeps-six asked (iterative_word H T xs) w ∙ sym (keeps-six asked (iterative_word H S xs) w));
            levels = a.levels ∙ rw (v_t, v_s) (keeps-six asked (iterative_levels H T xs) ls ∙ sym (keeps-six asked (iterative_levels H S xs) ls));
          }

-- what the quantiser answers by a setting's stand-in it answers by the setting
pub quantise-alike : (S T : Setting) → StandsFor S T → (xs : List Float) (v : Verdict) (ls ls' : List ℤ) (w w' : List ℕ) → Quantised T xs v ls ls' w w'
    → Quantised S xs v ls ls' w w'
quantise-alike S T st xs v ls ls' w w' q = cases (setting_fits S) (λ y. subst (λ (X : Setting). Quantised X xs v ls ls' w w') (st.same y) q) unfit
  where
    unfit : setting_fits S ≡ false → Quantised S xs v ls ls' w w'
    unfit n =
        let v_t = unfit-quantise T xs (length ls) (length w) (st.fits ∙ n) in
        let v_s = unfit-quantise S xs (length ls) (length w) n in
        record { answer = q.answer ∙ v_t ∙ sym v_s; levels = q.levels ∙ rw (v_t, v_s) refl; word = q.word ∙ rw (v_t, v_s) refl }
