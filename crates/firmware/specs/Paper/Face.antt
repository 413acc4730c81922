-- The firmware's face as a call: what it returns and leaves. (Document 02, cards 3 and 7.)
--   FacedAs H bs S xs ..            == the returned number, the word, the levels and the report, refused calls too
-- Assumes nothing.
use Rattle.std.specs.Prelude.{ℕ, ◌≡◌, List, length}
use Rattle.answers.specs.Paper.Answers.{written}
use Rattle.byte_numbers.specs.Paper.Numbers.{samples_in}
use Rattle.matrix.specs.Paper.Code.{Matrix}
use Rattle.quantiser_levels.specs.Paper.Samples.{Setting}
use Rattle.iterative_core.specs.Paper.Iterative.{iterative_word, iterative_levels}
use Rattle.firmware_asking.specs.Paper.Asked.{face_verdict}
use Rattle.firmware_decoding.specs.Paper.Said.{face_report, face_of}
use Rattle.firmware_codes.specs.Paper.Codes.{result_of, report_bytes, level_bytes}

-- the word w becomes w', the levels ls become ls', the report p becomes p'; a refused call keeps all three
pub record FacedAs (H : Matrix) (bs : List ℕ) (S : Setting) (xs : List ℕ) (r : ℕ) (w w' ls ls' p p' : List ℕ) : Type 0 where
  pub result : r ≡ result_of (face_of H bs S xs (length w) (length ls) (length p))
  pub word : w' ≡ written (face_verdict H bs S xs (length w) (length ls) (length p)) (iterative_word H S (samples_in xs)) w
  pub levels : ls' ≡ written (face_verdict H bs S xs (length w) (length ls) (length p)) (level_bytes (iterative_levels H S (samples_in xs))) ls
  pub report : p' ≡ written (face_verdict H bs S xs (length w) (length ls) (length p)) (report_bytes (face_report H S xs)) p
