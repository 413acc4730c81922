-- The C face says and leaves of a setting with b up to 8 what it did while widths ended at 8, its levels as numbers.
--   face-eight   == all of it: `FaceBefore`
-- Assumes nothing.
use mathlib.Core.Path.{ap, ◌∙◌}
use mathlib.Core.List.{List}
use Prim.Native.Nat.{ℕ, ◌≤◌}
use lib.ListN.{length}
use Rattle.answers.specs.Paper.Answers.{Verdict, after, written}
use Rattle.byte_numbers.specs.Paper.Numbers.{samples_in}
use Rattle.matrix.specs.Paper.Code.{Matrix}
use Rattle.quantiser_levels.specs.Paper.Samples.{Setting}
use Rattle.iterative_core.specs.Paper.Iterative.{iterative_word, iterative_levels}
use Rattle.firmware_codes.specs.Paper.Codes.{result_of, report_bytes, level_bytes}
use Rattle.firmware_decoding.specs.Paper.Said.{face_report, face_of}
use Rattle.firmware.specs.Paper.Face.{FacedAs}
use Rattle.eight_bits.specs.Paper.Claims.{FaceBefore}
use Rattle.eight_bits.proofs.Face.{asked-eight, numbers-read}

module _ (H : Matrix) (bs : List ℕ) (S : Setting) (xs : List ℕ) {r : ℕ} {w w' ls ls' p p' : List ℕ} (f : FacedAs H bs S xs r w w' ls ls' p p') where
  -- all of it
  pub face-eight : S.bits ≤ 8 → FaceBefore H bs S xs r w w' ls ls' p p'
  unfolding face_of
  face-eight eight =
      let same = asked-eight H bs S xs eight (length w) (length ls) (length p) in
      record {
        result = f.result ∙ ap (λ (v : Verdict). result_of (after v (face_report H S xs))) same;
        word = f.word ∙ ap (λ (v : Verdict). written v (iterative_word H S (samples_in xs)) w) same;
        report = f.report ∙ ap (λ (v : Verdict). written v (report_bytes (face_report H S xs)) p) same;
        bytes = f.levels ∙ ap (λ (v : Verdict). written v (level_bytes (iterative_levels H S (samples_in xs))) ls) same;
        levels = λ e. numbers-read H bs S xs f (same ∙ e);
      }
