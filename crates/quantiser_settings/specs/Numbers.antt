-- A setting by its numbers, as they cross the exported functions and stand in the program's input.
--   setting_by bits limit kind step   == the setting in document 01's terms
-- Assumes nothing.
use Rattle.std.specs.Prelude.{ℕ, Float}
use Rattle.quantiser_levels.specs.Paper.Samples.{Setting}

-- kind 0 is a level step, 1 a full scale; any other is out of range
abbrev pub setting_by : ℕ → ℕ → ℕ → Float → Setting
setting_by bits limit kind step = record { bits = bits; limit = limit; kind = kind; step = step }
