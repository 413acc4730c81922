-- How a run begins: what is asked of the matrix and the setting. (Document 01, "Worked by hand": the paragraph on the program.)
--   setting_verdict S        == what is asked of the setting: refusal 6
--   opening_verdict H S      == what is asked of the matrix and the setting, lowest number first
--   Opening, opening v S     == how a run begins by a verdict: refused, or with the setting S
--   Decodable H S            == matrix and setting are accepted
-- Assumes nothing.
use Rattle.std.specs.Prelude.{ℕ, ◌≡◌, true, not}
use Rattle.answers.specs.Paper.Answers.{Verdict, accepted, refused, refuse_when, and_then}
use Rattle.matrix.specs.Paper.Code.{Matrix}
use Rattle.matrix.specs.Paper.Check.{check_of}
use Rattle.matrix.specs.Paper.PlainCheck.{Accepted}
use Rattle.quantiser_levels.specs.Paper.Samples.{Setting, setting_fits}

-- "step kind (0 level step, 1 full scale, else refusal 6)"; "b, round limit or step out of range"
unfoldable pub setting_verdict : Setting → Verdict
setting_verdict S = refuse_when 6 (not (setting_fits S)) accepted

-- "1 is asked before the list is read, the rest after the step"
unfoldable pub opening_verdict : Matrix → Setting → Verdict
opening_verdict H S = and_then (check_of H) (setting_verdict S)

-- a refusal by 1 to 6 "ends the run"
pub data Opening : Type 0 where
  refused_by : ℕ → ℕ → Opening
  open_with : Setting → Opening

abbrev pub opening : Verdict → Setting → Opening
opening accepted S = open_with S
opening (refused k x) S = refused_by k x

pub record Decodable (H : Matrix) (S : Setting) : Type 0 where
  pub matrix : Accepted H
  pub setting : setting_fits S ≡ true
