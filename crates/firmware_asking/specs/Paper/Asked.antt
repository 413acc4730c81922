-- What the firmware's face asks of the numbers and bytes that it is lent. (Document 02, cards 3 and 7.)
--   face_matrix n m rho gamma bs     == the matrix of these sizes whose list the bytes bs are
--   face_setting bits limit kind step == the setting whose step has these 32 bits
--   face_check H bs                  == what is asked of the matrix: 1 to 5, 2 by the bytes of its list
--   wrong_bytes n bytes w ls p       == refusal 7 by the samples' bytes and by the room for word, levels and report
--   bytes_verdict n S xs w ls p      == what is asked of setting, samples and written buffers, once the matrix is accepted: 6, 7, 8
--   face_verdict H bs S xs w ls p    == what the face asks
-- Assumes nothing.
use Rattle.std.specs.Prelude.{ℕ, ◌*◌, Bool, not, ◌||◌, List, eqb, ltb, length}
use Rattle.std.specs.Float.{binary32}
use Rattle.std.specs.Float.Ieee.{of_bits}
use Rattle.answers.specs.Paper.Answers.{Verdict, accepted, refuse_when, refuse_at, and_then, wrong_lengths}
use Rattle.packed_word.specs.Paper.Packed.{bytes_for}
use Rattle.byte_numbers.specs.Paper.Numbers.{entries_in, samples_in}
use Rattle.matrix.specs.Paper.Code.{Matrix, matrix}
use Rattle.matrix.specs.Paper.Check.{sizes_fit, list_of}
use Rattle.quantiser_levels.specs.Paper.Samples.{Setting, setting_fits, first_not_finite}

-- "The list comes as low-byte-first 16-bit numbers"
abbrev pub face_matrix : ℕ → ℕ → ℕ → ℕ → List ℕ → Matrix
face_matrix n m rho gamma bs = matrix n m rho gamma (entries_in bs)

-- "the step as a kind .. and its 32 bits"
abbrev pub face_setting : ℕ → ℕ → ℕ → ℕ → Setting
face_setting bits limit kind step = record { bits = bits; limit = limit; kind = kind; step = of_bits binary32 step }

-- "A wrong byte length is 2 for the list": the bytes are asked, not the entries
unfoldable pub face_check : Matrix → List ℕ → Verdict
face_check H bs = refuse_when 1 (not (sizes_fit H)) (refuse_when 2 (not (eqb (length bs) (2 * (H.m * H.rho)))) (list_of H))

-- "else 7; written buffers may be longer": four bytes a sample, two a level (card 7), eight of a report
abbrev pub wrong_bytes : ℕ → ℕ → ℕ → ℕ → ℕ → Bool
wrong_bytes n bytes word levels report = wrong_lengths bytes (4 * n) word (bytes_for n) levels (2 * n) || ltb report 8

-- refusals 6, 7 and 8; the place of 8 counts samples
unfoldable pub bytes_verdict : ℕ → Setting → List ℕ → ℕ → ℕ → ℕ → Verdict
bytes_verdict n S xs word levels report =
    refuse_when 6 (not (setting_fits S))
    (refuse_when 7 (wrong_bytes n (length xs) word levels report) (refuse_at 8 (first_not_finite (samples_in xs)) (length (samples_in xs)) accepted))

-- refusals 1 to 8
unfoldable pub face_verdict : Matrix → List ℕ → Setting → List ℕ → ℕ → ℕ → ℕ → Verdict
face_verdict H bs S xs word levels report = and_then (face_check H bs) (bytes_verdict H.n S xs word levels report)
