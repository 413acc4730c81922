-- The C face on a setting with b up to 8: what it asks, and its levels as numbers.
--   asked-eight     == what the face asks
--   numbers-read    == the levels that an accepted call leaves, as numbers
-- Assumes nothing.
use mathlib.Core.Path.{◌≡◌}
use mathlib.Core.List.{List}
use Prim.Native.Nat.{ℕ, ◌*◌, ◌/◌, ◌≤◌}
use lib.ListN.{length}
use Rattle.counting.proofs.Writes.{listed-cong}
use Rattle.answers.specs.Paper.Answers.{accepted}
use Rattle.byte_numbers.specs.Paper.Numbers.{number16, samples_in}
use Rattle.matrix.specs.Paper.Code.{Matrix}
use Rattle.quantiser_levels.specs.Paper.Samples.{Setting, setting_fits_up_to}
use Rattle.iterative_core.specs.Paper.Iterative.{end_from, iterative_levels}
use Rattle.firmware_codes.specs.Paper.Codes.{level_in}
use Rattle.firmware_asking.specs.Paper.Asked.{bytes_verdict, face_verdict}
use Rattle.firmware.specs.Paper.Face.{FacedAs}
use Rattle.firmware.proofs.Iterative.{half-ltb}
use Rattle.firmware.proofs.Back.{read_back}
use Rattle.eight_bits.specs.Paper.Calls.{face_asked_by}
use Rattle.eight_bits.specs.Paper.Claims.{numbers_in}
use Rattle.eight_bits.proofs.SettingWidths.{setting-eight}

module _ (H : Matrix) (bs : List ℕ) (S : Setting) (xs : List ℕ) where
  -- what the face asks
  pub asked-eight : S.bits ≤ 8 → (word levels report : ℕ)
      → face_verdict H bs S xs word levels report ≡ face_asked_by (setting_fits_up_to 8 S) H bs xs word (levels / 2) report
  unfolding face_verdict bytes_verdict
  asked-eight eight word levels report = rw (setting-eight S eight, half-ltb levels H.n)

  module _ {r : ℕ} {w w' ls ls' p p' : List ℕ} (f : FacedAs H bs S xs r w w' ls ls' p p') where
    -- the levels that an accepted call leaves
    pub numbers-read : face_verdict H bs S xs (length w) (length ls) (length p) ≡ accepted → numbers_in H.n ls' ≡ iterative_levels H S (samples_in xs)
    unfolding iterative_levels
    numbers-read e =
        listed-cong H.n (λ j. level_in (number16 ls' (2 * j))) (end_from H S (samples_in xs)).last.R (read_back H S xs f e).levels
