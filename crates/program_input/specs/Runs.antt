-- The program's own answers in document 01's terms.
--   opened_of o   == how the run begins
-- Assumes nothing.
use Rattle.std.specs.Prelude.{Result, Ok, Err}
use Rattle.answers.specs.declared.Refusal.{Refusal}
use Rattle.answers.specs.Paper.Enums.{refusal_number, refusal_place}
use Rattle.quantiser_settings.specs.declared.Setting.{Setting}
use Rattle.quantiser_settings.specs.Paper.Settings.{setting_of}
use Rattle.program_input.specs.Paper.Opening.{Opening, refused_by, open_with}

abbrev pub opened_of : Result Setting Refusal → Opening
opened_of (Ok s) = open_with (setting_of s)
opened_of (Err f) = refused_by (refusal_number f) (refusal_place f)
