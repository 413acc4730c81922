-- Levels by a table of the least magnitudes.
--   most_pattern          == the pattern of infinity: those of finite magnitudes are below it
--   least_pattern S q     == the least pattern of a magnitude whose level is q or more; that of infinity where there is none
--   table_of S            == that of each q up to two past the largest level there is
-- Assumes nothing.
use Rattle.std.specs.Prelude.{List, ℕ, leb}
use Rattle.std.specs.Float.{binary32}
use Rattle.std.specs.Float.Ieee.{of_bits}
use Rattle.counting.specs.Paper.Search.{first}
use Rattle.counting.specs.Paper.Lists.{listed}
use Rattle.quantiser_levels.specs.Paper.Samples.{Setting, magnitude}

abbrev pub most_pattern : ℕ
most_pattern = 2139095040

unfoldable pub least_pattern : Setting → ℕ → ℕ
least_pattern S q = first (λ p. leb q (magnitude S (of_bits binary32 p))) most_pattern

unfoldable pub table_of : Setting → List ℕ
table_of S = listed 2050 (least_pattern S)
