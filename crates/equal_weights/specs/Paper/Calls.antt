-- What each call says and leaves where the matrix check says v: the calls' definitions with v in the place of `check_of H`.
--   failing_by v H w            == the count of failing checks
--   OneStepBy v H w ..          == one-step voting: answer and word
--   iterative_asked_by v H S xs ..   == what iterative voting asks
--   IterativeBy v H S xs ..     == iterative voting: answer, word and levels
--   open_by v H S xs h          == opening a session: answer, record, word and levels
--   step_by v H w o h           == a step of it
--   IndexBy v H ..              == building the index: answer and index
--   OneStepIndexedBy v H x ..   == one-step voting by matrix and index
--   IterativeIndexedBy v H x .. == iterative voting by matrix and index
--   program_by v S              == how a run of the program begins
-- Assumes nothing.
use Rattle.std.specs.Prelude.{ℕ, ◌≡◌, List, ltb, ℤ, Float, length}
use Rattle.answers.specs.Paper.Answers.{Verdict, accepted, refuse_when, and_then, Said, count, after, written}
use Rattle.packed_word.specs.Paper.Packed.{bit_at, bytes_for}
use Rattle.matrix.specs.Paper.Code.{Matrix, failing}
use Rattle.matrix_index.specs.Paper.Index.{index_of, index_size, own_verdict}
use Rattle.syndrome.specs.Paper.Failing.{word_verdict}
use Rattle.majority_logic.specs.Paper.OneStep.{one_step_report, one_step_word}
use Rattle.quantiser_levels.specs.Paper.Samples.{Setting}
use Rattle.iterative_core.specs.Paper.Iterative.{start_of, end_from, report_at, samples_verdict, iterative_word, iterative_levels}
use Rattle.session_asking.specs.Paper.Asked.{Held, unusable, ended, other_sizes, not_opened, beyond}
use Rattle.session.specs.Paper.Steps.{Left, leave, opened_left, stepped_left}
use Rattle.program_input.specs.Paper.Opening.{Opening, opening, setting_verdict}

-- the count of failing checks
abbrev pub failing_by : Verdict → Matrix → List ℕ → Said
failing_by v H w = after (and_then v (word_verdict H.n w (bytes_for H.n) H.n)) (count (failing H (bit_at w)))

-- one-step voting
pub record OneStepBy (v : Verdict) (H : Matrix) (w old new : List ℕ) (s : Said) : Type 0 where
  pub says : s ≡ after (and_then v (word_verdict H.n w (length old) H.n)) (one_step_report H (bit_at w))
  pub word : new ≡ written (and_then v (word_verdict H.n w (length old) H.n)) (one_step_word H w) old

-- what iterative voting asks
abbrev pub iterative_asked_by : Verdict → Matrix → Setting → List Float → ℕ → ℕ → Verdict
iterative_asked_by v H S xs bytes levels = and_then v (samples_verdict H.n S xs bytes levels)

-- iterative voting
pub record IterativeBy (v : Verdict) (H : Matrix) (S : Setting) (xs : List Float) (said : Said) (w w' : List ℕ) (ls ls' : List ℤ) : Type 0 where
  pub answer : said ≡ after (iterative_asked_by v H S xs (length w) (length ls)) (report_at H (start_of S xs) (end_from H S xs))
  pub word : w' ≡ written (iterative_asked_by v H S xs (length w) (length ls)) (iterative_word H S xs) w
  pub levels : ls' ≡ written (iterative_asked_by v H S xs (length w) (length ls)) (iterative_levels H S xs) ls

-- opening a session
abbrev pub open_by : Verdict → Matrix → Setting → List Float → Held → Left
open_by v H S xs h = leave (iterative_asked_by v H S xs (length h.word) (length h.levels)) (opened_left H S xs h) h

-- what a step asks
abbrev pub step_asked_by : Verdict → Matrix → List ℕ → List ℤ → Held → Verdict
step_asked_by v H w o h =
    refuse_when 20 (unusable h.rec)
    (refuse_when 21 (ended h.rec)
    (and_then v
    (refuse_when 22 (other_sizes H h.rec)
    (refuse_when 7 (not_opened H.n o)
    (and_then (word_verdict H.n w (length h.word) (length h.levels))
    (refuse_when 23 (beyond H h.rec h) accepted))))))

-- a step
abbrev pub step_by : Verdict → Matrix → List ℕ → List ℤ → Held → Left
step_by v H w o h = leave (step_asked_by v H w o h) (stepped_left H w o h) h

-- building the index
pub record IndexBy (v : Verdict) (H : Matrix) (old new : List ℕ) (s : Verdict) : Type 0 where
  pub says : s ≡ and_then v (refuse_when 10 (ltb (length old) (index_size H)) accepted)
  pub index : new ≡ written (and_then v (refuse_when 10 (ltb (length old) (index_size H)) accepted)) (index_of H) old

-- one-step voting by matrix and index
pub record OneStepIndexedBy (v : Verdict) (H : Matrix) (x w old new : List ℕ) (s : Said) : Type 0 where
  pub says : s ≡ after (and_then v (and_then (own_verdict H x) (word_verdict H.n w (length old) H.n))) (one_step_report H (bit_at w))
  pub word : new ≡ written (and_then v (and_then (own_verdict H x) (word_verdict H.n w (length old) H.n))) (one_step_word H w) old

-- what iterative voting by matrix and index asks
abbrev pub indexed_asked_by : Verdict → Matrix → List ℕ → Setting → List Float → ℕ → ℕ → Verdict
indexed_asked_by v H x S xs bytes levels = and_then v (and_then (own_verdict H x) (samples_verdict H.n S xs bytes levels))

-- iterative voting by matrix and index
pub record IterativeIndexedBy (v : Verdict) (H : Matrix) (x : List ℕ) (S : Setting) (xs : List Float) (s : Said) (w w' : List ℕ) (l l' : List ℤ) : Type 0 where
  pub answer : s ≡ after (indexed_asked_by v H x S xs (length w) (length l)) (report_at H (start_of S xs) (end_from H S xs))
  pub word : w' ≡ written (indexed_asked_by v H x S xs (length w) (length l)) (iterative_word H S xs) w
  pub levels : l' ≡ written (indexed_asked_by v H x S xs (length w) (length l)) (iterative_levels H S xs) l

-- how a run of the program begins, once its sizes have passed refusal 1 (`AsBefore.sizes`); the lines of its blocks do not ask the matrix again
abbrev pub program_by : Verdict → Setting → Opening
program_by v S = opening (and_then v (setting_verdict S)) S
