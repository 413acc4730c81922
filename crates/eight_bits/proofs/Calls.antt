-- Every call says and leaves of a setting or a record with b up to 8 what it did while widths ended at 8: each by the law of its test.
--   quantiser-eight     == the quantiser: answer, levels and word
--   iterative-eight     == iterative voting: answer, word and levels
--   indexed-eight       == iterative voting by matrix and index
--   open-eight          == opening a session: answer, record, word and levels
--   program-eight       == how a run of the program begins
--   step-eight          == a step
-- Assumes nothing.
use mathlib.Core.Path.{◌≡◌, ap, ◌∙◌}
use mathlib.Core.Bool.{Bool}
use mathlib.Core.List.{List}
use Prim.Native.Nat.{ℕ, ◌≤◌}
use lib.IntN.{ℤ}
use lib.Ieee.{Float}
use lib.ListN.{length}
use Rattle.answers.specs.Paper.Answers.{Verdict, Said, after, written}
use Rattle.matrix.specs.Paper.Code.{Matrix}
use Rattle.quantiser_levels.specs.Paper.Samples.{Setting, ranges_fit_up_to, setting_fits_up_to, levels_of, hard_word, quantise_verdict}
use Rattle.quantiser.specs.Paper.Call.{Quantised}
use Rattle.iterative_core.specs.Paper.Iterative.{start_of, end_from, report_at, samples_verdict, iterative_verdict, iterative_of, iterative_word, iterative_levels}
use Rattle.iterative_core.specs.Paper.Call.{IterativeAnswered}
use Rattle.iterative_indexed.specs.Paper.Call.{iterative_indexed_verdict, iterative_indexed_of, IterativeIndexedAnswered}
use Rattle.session_asking.specs.Paper.Asked.{Held, open_verdict, unusable, step_verdict}
use Rattle.session.specs.Paper.Steps.{open_of, step_of}
use Rattle.program_input.specs.Paper.Opening.{opening, setting_verdict, opening_verdict}
use Rattle.eight_bits.specs.Paper.Calls.{quantise_asked_by, QuantisedBy, iterative_asked_by, IterativeBy, indexed_asked_by, IterativeIndexedBy}
use Rattle.eight_bits.specs.Paper.Calls.{open_by, step_by, program_by}
use Rattle.eight_bits.proofs.Widths.{ranges-eight}
use Rattle.eight_bits.proofs.SettingWidths.{setting-eight}

-- ---- calls with a setting

module _ (S : Setting) (eight : S.bits ≤ 8) where
  -- the quantiser
  pub quantiser-eight : (xs : List Float) (said : Verdict) (ls ls' : List ℤ) (w w' : List ℕ) → Quantised S xs said ls ls' w w'
      → QuantisedBy (setting_fits_up_to 8 S) S xs said ls ls' w w'
  unfolding quantise_verdict
  quantiser-eight xs said ls ls' w w' q =
      let asked : Bool → Verdict = λ t. quantise_asked_by t xs (length ls) (length w) in
      record {
        answer = q.answer ∙ ap asked (setting-eight S eight);
        levels = q.levels ∙ ap (λ (t : Bool). written (asked t) (levels_of S xs) ls) (setting-eight S eight);
        word = q.word ∙ ap (λ (t : Bool). written (asked t) (hard_word xs) w) (setting-eight S eight);
      }

  -- iterative voting
  pub iterative-eight : (H : Matrix) (xs : List Float) (said : Said) (w w' : List ℕ) (ls ls' : List ℤ) → IterativeAnswered H S xs said w w' ls ls'
      → IterativeBy (setting_fits_up_to 8 S) H S xs said w w' ls ls'
  unfolding iterative_of iterative_verdict samples_verdict
  iterative-eight H xs said w w' ls ls' a =
      let asked : Bool → Verdict = λ t. iterative_asked_by t H xs (length w) (length ls) in
      record {
        answer = a.answer ∙ ap (λ (t : Bool). after (asked t) (report_at H (start_of S xs) (end_from H S xs))) (setting-eight S eight);
        word = a.word ∙ ap (λ (t : Bool). written (asked t) (iterative_word H S xs) w) (setting-eight S eight);
        levels = a.levels ∙ ap (λ (t : Bool). written (asked t) (iterative_levels H S xs) ls) (setting-eight S eight);
      }

  -- iterative voting by matrix and index
  pub indexed-eight : (H : Matrix) (x : List ℕ) (xs : List Float) (said : Said) (w w' : List ℕ) (ls ls' : List ℤ)
      → IterativeIndexedAnswered H x S xs said w w' ls ls' → IterativeIndexedBy (setting_fits_up_to 8 S) H x S xs said w w' ls ls'
  unfolding iterative_indexed_of iterative_indexed_verdict samples_verdict
  indexed-eight H x xs said w w' ls ls' a =
      let asked : Bool → Verdict = λ t. indexed_asked_by t H x xs (length w) (length ls) in
      record {
        answer = a.answer ∙ ap (λ (t : Bool). after (asked t) (report_at H (start_of S xs) (end_from H S xs))) (setting-eight S eight);
        word = a.word ∙ ap (λ (t : Bool). written (asked t) (iterative_word H S xs) w) (setting-eight S eight);
        levels = a.levels ∙ ap (λ (t : Bool). written (asked t) (iterative_levels H S xs) ls) (setting-eight S eight);
      }

  -- opening a session
  pub open-eight : (H : Matrix) (xs : List Float) (h : Held) → open_of H S xs h ≡ open_by (setting_fits_up_to 8 S) H S xs h
  unfolding open_of open_verdict iterative_verdict samples_verdict
  open-eight H xs h = ap (λ (t : Bool). open_by t H S xs h) (setting-eight S eight)

  -- how a run of the program begins
  pub program-eight : (H : Matrix) → opening (opening_verdict H S) S ≡ program_by (setting_fits_up_to 8 S) H S
  unfolding opening_verdict setting_verdict
  program-eight H = ap (λ (t : Bool). program_by t H S) (setting-eight S eight)

-- ---- a step

pub step-eight : (H : Matrix) (w : List ℕ) (o : List ℤ) (h : Held) → h.rec.bits ≤ 8
    → step_of H w o h ≡ step_by (ranges_fit_up_to 8 h.rec.bits h.rec.limit) H w o h
unfolding step_of step_verdict unusable
step-eight H w o h eight = ap (λ (t : Bool). step_by t H w o h) (ranges-eight h.rec.bits h.rec.limit eight)
