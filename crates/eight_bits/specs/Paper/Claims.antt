-- What stays of settings and records with b up to 8. (Document 02, card 7: "All answers with b up to 8 are unchanged".)
--   numbers_in n ls         == the levels that a level buffer of the C face holds, as numbers
--   FaceBefore H bs S xs .. == what the C face returns and leaves where widths end at 8: word, report and levels as bytes, and the levels as numbers
--   AsBefore S              == every call with the setting S says and leaves what it did while widths ended at 8
--   StepAsBefore H w o h    == so of a step whose record has b up to 8
--   GoesOn H w r word       == a session opened before goes on: its levels and the opening's brought over, a step says and leaves what it did
--   Returns S               == every level that a call with the setting S writes can be taken back
--   StepReturns H w o h     == so of a step
-- proofs/EightBits.antt shows `AsBefore` and `Returns` of every setting with b up to 8, the others of every record with b up to 8. Assumes nothing.
use Rattle.std.specs.Prelude.{ℕ, ◌*◌, ◌/◌, ◌≤◌, ◌≡◌, List, ℤ, Float, length, take}
use Rattle.counting.specs.Paper.Lists.{listed}
use Rattle.answers.specs.Paper.Answers.{Verdict, accepted, Said, after, written}
use Rattle.byte_numbers.specs.Paper.Numbers.{number16, samples_in}
use Rattle.matrix.specs.Paper.Code.{Matrix}
use Rattle.quantiser_levels.specs.Paper.Samples.{Setting, setting_fits, setting_fits_up_to, ranges_fit_up_to}
use Rattle.quantiser.specs.Paper.Call.{Quantised}
use Rattle.quantiser_widths.specs.Paper.Widths.{Widened, narrow_verdict}
use Rattle.iterative_core.specs.Paper.Iterative.{iterative_verdict, iterative_word, iterative_levels}
use Rattle.iterative_core.specs.Paper.Call.{IterativeAnswered}
use Rattle.iterative_indexed.specs.Paper.Call.{iterative_indexed_verdict, IterativeIndexedAnswered}
use Rattle.session_record.specs.Paper.Record.{Record}
use Rattle.session_asking.specs.Paper.Asked.{Held, lent, open_verdict, step_verdict}
use Rattle.session.specs.Paper.Steps.{open_of, wrote_levels, step_of}
use Rattle.program_input.specs.Paper.Opening.{opening, opening_verdict}
use Rattle.firmware_codes.specs.Paper.Codes.{result_of, report_bytes, level_bytes, level_in}
use Rattle.firmware_asking.specs.Paper.Asked.{face_verdict}
use Rattle.firmware_decoding.specs.Paper.Said.{face_report}
use Rattle.firmware.specs.Paper.Face.{FacedAs}
use Rattle.eight_bits.specs.Paper.Calls.{QuantisedBy, IterativeBy, IterativeIndexedBy, open_by, step_by, program_by, face_asked_by}

-- the levels that a level buffer of the C face holds, as numbers
abbrev pub numbers_in : ℕ → List ℕ → List ℤ
numbers_in n ls = listed n (λ j. level_in (number16 ls (2 * j)))

-- the C face: two bytes of ls are room for one level; the word w becomes w', the levels ls become ls', the report p becomes p'; a refused call
-- keeps all three, and bytes past the needed ones stay. The levels are the same numbers, in two bytes each
pub record FaceBefore (H : Matrix) (bs : List ℕ) (S : Setting) (xs : List ℕ) (r : ℕ) (w w' ls ls' p p' : List ℕ) : Type 0 where
  pub result : r ≡ result_of (after (face_asked_by (setting_fits_up_to 8 S) H bs xs (length w) (length ls / 2) (length p)) (face_report H S xs))
  pub word : w' ≡ written (face_asked_by (setting_fits_up_to 8 S) H bs xs (length w) (length ls / 2) (length p)) (iterative_word H S (samples_in xs)) w
  pub report : p' ≡ written (face_asked_by (setting_fits_up_to 8 S) H bs xs (length w) (length ls / 2) (length p)) (report_bytes (face_report H S xs)) p
  pub bytes : ls' ≡ written (face_asked_by (setting_fits_up_to 8 S) H bs xs (length w) (length ls / 2) (length p)) (level_bytes (iterative_levels H S (samples_in xs))) ls
  pub levels : face_asked_by (setting_fits_up_to 8 S) H bs xs (length w) (length ls / 2) (length p) ≡ accepted
      → numbers_in H.n ls' ≡ iterative_levels H S (samples_in xs)

-- the setting's test, each call with it, the program's beginning and the C face
pub record AsBefore (S : Setting) : Type 0 where
  pub setting : setting_fits S ≡ setting_fits_up_to 8 S
  pub quantiser : (xs : List Float) (said : Verdict) (ls ls' : List ℤ) (w w' : List ℕ) → Quantised S xs said ls ls' w w'
      → QuantisedBy (setting_fits_up_to 8 S) S xs said ls ls' w w'
  pub iterative : (H : Matrix) (xs : List Float) (said : Said) (w w' : List ℕ) (ls ls' : List ℤ) → IterativeAnswered H S xs said w w' ls ls'
      → IterativeBy (setting_fits_up_to 8 S) H S xs said w w' ls ls'
  pub indexed : (H : Matrix) (x : List ℕ) (xs : List Float) (said : Said) (w w' : List ℕ) (ls ls' : List ℤ)
      → IterativeIndexedAnswered H x S xs said w w' ls ls' → IterativeIndexedBy (setting_fits_up_to 8 S) H x S xs said w w' ls ls'
  pub opens : (H : Matrix) (xs : List Float) (h : Held) → open_of H S xs h ≡ open_by (setting_fits_up_to 8 S) H S xs h
  pub program : (H : Matrix) → opening (opening_verdict H S) S ≡ program_by (setting_fits_up_to 8 S) H S
  pub face : (H : Matrix) (bs xs : List ℕ) (r : ℕ) (w w' ls ls' p p' : List ℕ) → FacedAs H bs S xs r w w' ls ls' p p'
      → FaceBefore H bs S xs r w w' ls ls' p p'

-- a step
abbrev pub StepAsBefore : Matrix → List ℕ → List ℤ → Held → Type 0
StepAsBefore H w o h = step_of H w o h ≡ step_by (ranges_fit_up_to 8 h.rec.bits h.rec.limit) H w o h

-- old levels, and those of the opening, brought over into buffers as long as they are
abbrev pub GoesOn : Matrix → List ℕ → Record → List ℕ → Type 0
GoesOn H w r word =
    (o o₀ o' old ls ls' : List ℤ) (u v : Verdict) → length o₀ ≡ length o → length ls ≡ length old → Widened o u o₀ o' → Widened old v ls ls'
    → step_of H w o' (lent r word ls') ≡ step_by (ranges_fit_up_to 8 r.bits r.limit) H w o (lent r word old)

-- the quantiser, the whole call, with an index too, an opening and the C face
pub record Returns (S : Setting) : Type 0 where
  pub quantiser : (xs : List Float) (said : Verdict) (ls ls' : List ℤ) (w w' : List ℕ) (room : ℕ) → Quantised S xs said ls ls' w w' → said ≡ accepted
      → length xs ≤ room → narrow_verdict (take (length xs) ls') room ≡ accepted
  pub iterative : (H : Matrix) (xs : List Float) (said : Said) (w w' : List ℕ) (ls ls' : List ℤ) (room : ℕ) → IterativeAnswered H S xs said w w' ls ls'
      → iterative_verdict H S xs (length w) (length ls) ≡ accepted → H.n ≤ room → narrow_verdict (take H.n ls') room ≡ accepted
  pub indexed : (H : Matrix) (x : List ℕ) (xs : List Float) (said : Said) (w w' : List ℕ) (ls ls' : List ℤ) (room : ℕ)
      → IterativeIndexedAnswered H x S xs said w w' ls ls' → iterative_indexed_verdict H x S xs (length w) (length ls) ≡ accepted
      → H.n ≤ room → narrow_verdict (take H.n ls') room ≡ accepted
  pub opens : (H : Matrix) (xs : List Float) (h : Held) (room : ℕ) → open_verdict H S xs h ≡ accepted → H.n ≤ room
      → narrow_verdict (wrote_levels H (open_of H S xs h)) room ≡ accepted
  pub face : (H : Matrix) (bs xs : List ℕ) (r : ℕ) (w w' ls ls' p p' : List ℕ) (room : ℕ) → FacedAs H bs S xs r w w' ls ls' p p'
      → face_verdict H bs S xs (length w) (length ls) (length p) ≡ accepted → H.n ≤ room → narrow_verdict (numbers_in H.n ls') room ≡ accepted

-- a step
abbrev pub StepReturns : Matrix → List ℕ → List ℤ → Held → Type 0
StepReturns H w o h =
    (room : ℕ) → step_verdict H w o h ≡ accepted → H.n ≤ room → narrow_verdict (take H.n (step_of H w o h).held.levels) room ≡ accepted
