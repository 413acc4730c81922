-- What the parts of the face ask and leave.
--   OutLent H S fs ..        == matrix and setting are accepted, fs are n finite samples, and there is room for word, levels and report
--   DecodedOut H S fs ..     == what the decoding of accepted samples says and leaves
--   Answered v H S xs ..     == what a part says and leaves that asks v
--   ListAnswered H S xs ..   == the same of the part that begins with the matrix check
-- Assumes nothing.
use Rattle.std.specs.Prelude.{ℕ, ◌*◌, ◌≤◌, ◌≡◌, true, List, Float, length}
use Rattle.counting.specs.Paper.Lists.{over}
use Rattle.answers.specs.Paper.Answers.{Verdict, and_then, Said, after, written}
use Rattle.packed_word.specs.Paper.Packed.{bytes_for}
use Rattle.byte_numbers.specs.Paper.Numbers.{samples_in}
use Rattle.matrix.specs.Paper.Code.{Matrix}
use Rattle.matrix.specs.Paper.Check.{check_of}
use Rattle.matrix.specs.Paper.PlainCheck.{Accepted}
use Rattle.quantiser_levels.specs.Paper.Samples.{Setting, setting_fits, first_not_finite}
use Rattle.iterative_core.specs.Paper.Iterative.{start_of, end_from, report_at, iterative_word, iterative_levels}
use Rattle.firmware_codes.specs.Paper.Codes.{report_bytes, level_bytes}
use Rattle.firmware_asking.specs.Paper.Asked.{bytes_verdict}
use Rattle.firmware_decoding.specs.Paper.Said.{face_report}

-- what 8 leaves beside: n finite samples
pub record OutLent (H : Matrix) (S : Setting) (fs : List Float) (word levels report : ℕ) : Type 0 where
  pub matrix : Accepted H
  pub setting : setting_fits S ≡ true
  pub samples : length fs ≡ H.n
  pub each_finite : first_not_finite fs ≡ length fs
  pub room_word : bytes_for H.n ≤ word
  pub room_levels : 2 * H.n ≤ levels
  pub room_report : 8 ≤ report

-- the word w becomes w', the levels ls become ls', the report p becomes p'
pub record DecodedOut (H : Matrix) (S : Setting) (fs : List Float) (said : Said) (w w' ls ls' p p' : List ℕ) : Type 0 where
  pub answer : said ≡ report_at H (start_of S fs) (end_from H S fs)
  pub word : w' ≡ over (iterative_word H S fs) w
  pub levels : ls' ≡ over (level_bytes (iterative_levels H S fs)) ls
  pub report : p' ≡ over (report_bytes (report_at H (start_of S fs) (end_from H S fs))) p

-- the same of the samples that the bytes xs are, where v accepts; a refusal keeps all three
pub record Answered (v : Verdict) (H : Matrix) (S : Setting) (xs : List ℕ) (said : Said) (w w' ls ls' p p' : List ℕ) : Type 0 where
  pub answer : said ≡ after v (face_report H S xs)
  pub word : w' ≡ written v (iterative_word H S (samples_in xs)) w
  pub levels : ls' ≡ written v (level_bytes (iterative_levels H S (samples_in xs))) ls
  pub report : p' ≡ written v (report_bytes (face_report H S xs)) p

-- once the list is read: refusals 1 to 5 by the matrix check, then 6 to 8
abbrev pub ListAnswered : Matrix → Setting → List ℕ → Said → List ℕ → List ℕ → List ℕ → List ℕ → List ℕ → List ℕ → Type 0
ListAnswered H S xs said w w' ls ls' p p' =
    Answered (and_then (check_of H) (bytes_verdict H.n S xs (length w) (length ls) (length p))) H S xs said w w' ls ls' p p'
