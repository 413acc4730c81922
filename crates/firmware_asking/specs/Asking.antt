-- What the parts of the face's questions ask, and what they leave.
--   list_verdict H k          == refusals 1 and 2 by the sizes and by k bytes of a list
--   lent_verdict n S k ..     == refusals 6 and 7 by the setting and by the lengths
--   FaceLent H S xs ..        == matrix and setting are accepted, the bytes xs are n samples, and there is room for word, levels and report
-- Assumes nothing.
use Rattle.std.specs.Prelude.{ℕ, ◌*◌, ◌≤◌, ◌≡◌, true, not, List, eqb, length}
use Rattle.answers.specs.Paper.Answers.{Verdict, accepted, refuse_when}
use Rattle.packed_word.specs.Paper.Packed.{bytes_for}
use Rattle.matrix.specs.Paper.Code.{Matrix}
use Rattle.matrix.specs.Paper.Check.{sizes_fit}
use Rattle.matrix.specs.Paper.PlainCheck.{Accepted}
use Rattle.quantiser_levels.specs.Paper.Samples.{Setting, setting_fits}
use Rattle.firmware_asking.specs.Paper.Asked.{wrong_bytes}

-- what is asked before the list is read
unfoldable pub list_verdict : Matrix → ℕ → Verdict
list_verdict H bytes = refuse_when 1 (not (sizes_fit H)) (refuse_when 2 (not (eqb bytes (2 * (H.m * H.rho)))) accepted)

-- what is asked before the samples are read
unfoldable pub lent_verdict : ℕ → Setting → ℕ → ℕ → ℕ → ℕ → Verdict
lent_verdict n S bytes word levels report =
    refuse_when 6 (not (setting_fits S)) (refuse_when 7 (wrong_bytes n bytes word levels report) accepted)

-- what 6 and 7 leave: samples of 4 n bytes, and room for what is written
pub record FaceLent (H : Matrix) (S : Setting) (xs : List ℕ) (word levels report : ℕ) : Type 0 where
  pub matrix : Accepted H
  pub setting : setting_fits S ≡ true
  pub bytes : length xs ≡ 4 * H.n
  pub room_word : bytes_for H.n ≤ word
  pub room_levels : 2 * H.n ≤ levels
  pub room_report : 8 ≤ report
