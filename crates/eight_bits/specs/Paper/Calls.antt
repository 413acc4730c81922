-- What each call that has a setting, or a record with a width, says and leaves where their test says t: the calls' definitions with t in the
-- place of `setting_fits S`, and of `ranges_fit` for a record. With t by `setting_fits_up_to 8` and `ranges_fit_up_to 8` they are the calls as they were
-- while widths ended at 8.
--   QuantisedBy t S xs ..            == the quantiser: answer, levels and word
--   samples_asked_by t n xs ..       == what is asked of setting, samples and written buffers
--   IterativeBy t H S xs ..          == iterative voting: answer, word and levels
--   IterativeIndexedBy t H x S xs ..   == iterative voting by matrix and index
--   open_by t H S xs h               == opening a session: answer, record, word and levels
--   step_asked_by t H w o h, step_by t H w o h   == what a step of it asks, and the step
--   program_by t H S                 == how a run of the program begins
--   face_asked_by t H bs xs w l p    == what the C face asks whose level buffer has room for l levels
-- Assumes nothing.
use Rattle.std.specs.Prelude.{ℕ, ◌*◌, ◌≡◌, Bool, not, ◌&&◌, ◌||◌, List, eqb, leb, ltb, ℤ, Float, length}
use Rattle.answers.specs.Paper.Answers.{Verdict, accepted, refuse_when, refuse_at, and_then, wrong_lengths, Said, after, written}
use Rattle.packed_word.specs.Paper.Packed.{bytes_for}
use Rattle.byte_numbers.specs.Paper.Numbers.{samples_in}
use Rattle.matrix.specs.Paper.Code.{Matrix}
use Rattle.matrix.specs.Paper.Check.{check_of}
use Rattle.matrix_index_check.specs.Paper.Call.{indexed_verdict}
use Rattle.syndrome.specs.Paper.Failing.{word_verdict}
use Rattle.quantiser_levels.specs.Paper.Samples.{Setting, levels_of, hard_word, first_not_finite, too_short}
use Rattle.iterative_core.specs.Paper.Iterative.{start_of, end_from, report_at, iterative_word, iterative_levels}
use Rattle.session_record.specs.Paper.Record.{Record, working, decoded, failed}
use Rattle.session_asking.specs.Paper.Asked.{Held, ended, other_sizes, not_opened, beyond}
use Rattle.session.specs.Paper.Steps.{Left, leave, opened_left, stepped_left}
use Rattle.program_input.specs.Paper.Opening.{Opening, opening}
use Rattle.firmware_asking.specs.Paper.Asked.{face_check}

-- what the quantiser alone asks
abbrev pub quantise_asked_by : Bool → List Float → ℕ → ℕ → Verdict
quantise_asked_by t xs levels bytes =
    refuse_when 6 (not t) (refuse_when 7 (too_short (length xs) levels bytes) (refuse_at 8 (first_not_finite xs) (length xs) accepted))

-- the quantiser
pub record QuantisedBy (t : Bool) (S : Setting) (xs : List Float) (said : Verdict) (ls ls' : List ℤ) (w w' : List ℕ) : Type 0 where
  pub answer : said ≡ quantise_asked_by t xs (length ls) (length w)
  pub levels : ls' ≡ written (quantise_asked_by t xs (length ls) (length w)) (levels_of S xs) ls
  pub word : w' ≡ written (quantise_asked_by t xs (length ls) (length w)) (hard_word xs) w

-- what is asked of setting, samples and written buffers, once the matrix is accepted
abbrev pub samples_asked_by : Bool → ℕ → List Float → ℕ → ℕ → Verdict
samples_asked_by t n xs bytes levels =
    refuse_when 6 (not t)
    (refuse_when 7 (wrong_lengths (length xs) n bytes (bytes_for n) levels n) (refuse_at 8 (first_not_finite xs) (length xs) accepted))

-- what iterative voting asks
abbrev pub iterative_asked_by : Bool → Matrix → List Float → ℕ → ℕ → Verdict
iterative_asked_by t H xs bytes levels = and_then (check_of H) (samples_asked_by t H.n xs bytes levels)

-- iterative voting
pub record IterativeBy (t : Bool) (H : Matrix) (S : Setting) (xs : List Float) (said : Said) (w w' : List ℕ) (ls ls' : List ℤ) : Type 0 where
  pub answer : said ≡ after (iterative_asked_by t H xs (length w) (length ls)) (report_at H (start_of S xs) (end_from H S xs))
  pub word : w' ≡ written (iterative_asked_by t H xs (length w) (length ls)) (iterative_word H S xs) w
  pub levels : ls' ≡ written (iterative_asked_by t H xs (length w) (length ls)) (iterative_levels H S xs) ls

-- what iterative voting by matrix and index asks
abbrev pub indexed_asked_by : Bool → Matrix → List ℕ → List Float → ℕ → ℕ → Verdict
indexed_asked_by t H x xs bytes levels = indexed_verdict H x (samples_asked_by t H.n xs bytes levels)

-- iterative voting by matrix and index
pub record IterativeIndexedBy (t : Bool) (H : Matrix) (x : List ℕ) (S : Setting) (xs : List Float) (said : Said) (w w' : List ℕ) (ls ls' : List ℤ) : Type 0 where
  pub answer : said ≡ after (indexed_asked_by t H x xs (length w) (length ls)) (report_at H (start_of S xs) (end_from H S xs))
  pub word : w' ≡ written (indexed_asked_by t H x xs (length w) (length ls)) (iterative_word H S xs) w
  pub levels : ls' ≡ written (indexed_asked_by t H x xs (length w) (length ls)) (iterative_levels H S xs) ls

-- opening a session
abbrev pub open_by : Bool → Matrix → Setting → List Float → Held → Left
open_by t H S xs h = leave (iterative_asked_by t H xs (length h.word) (length h.levels)) (opened_left H S xs h) h

-- refusal 20, t being the test of the record's width and round limit
abbrev pub unusable_by : Bool → Record → Bool
unusable_by t r =
    not (eqb r.state working || (eqb r.state decoded || eqb r.state failed))
    || (eqb r.state working && (not t || leb r.limit r.k))

-- what a step asks
abbrev pub step_asked_by : Bool → Matrix → List ℕ → List ℤ → Held → Verdict
step_asked_by t H w o h =
    refuse_when 20 (unusable_by t h.rec)
    (refuse_when 21 (ended h.rec)
    (and_then (check_of H)
    (refuse_when 22 (other_sizes H h.rec)
    (refuse_when 7 (not_opened H.n o)
    (and_then (word_verdict H.n w (length h.word) (length h.levels))
    (refuse_when 23 (beyond H h.rec h) accepted))))))

-- a step
abbrev pub step_by : Bool → Matrix → List ℕ → List ℤ → Held → Left
step_by t H w o h = leave (step_asked_by t H w o h) (stepped_left H w o h) h

-- how a run of the program begins, once its sizes have passed refusal 1; the lines of its blocks do not ask the setting again
abbrev pub program_by : Bool → Matrix → Setting → Opening
program_by t H S = opening (and_then (check_of H) (refuse_when 6 (not t) accepted)) S

-- what the C face asks: four bytes a sample, and a level buffer with room for so many levels, whatever bytes a level has
abbrev pub face_asked_by : Bool → Matrix → List ℕ → List ℕ → ℕ → ℕ → ℕ → Verdict
face_asked_by t H bs xs word levels report =
    and_then (face_check H bs)
    (refuse_when 6 (not t)
    (refuse_when 7 (wrong_lengths (length xs) (4 * H.n) word (bytes_for H.n) levels H.n || ltb report 8)
    (refuse_at 8 (first_not_finite (samples_in xs)) (length (samples_in xs)) accepted)))
