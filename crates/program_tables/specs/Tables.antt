-- What a run keeps for its blocks.
--   tables_of H S     == the table of least magnitudes of the setting S, then the matrix H as sets
--   tables_size H     == how many cells these are
-- Assumes nothing.
use Rattle.std.specs.Prelude.{List, ◌++◌, ℕ, ◌+◌}
use Rattle.matrix.specs.Paper.Code.{Matrix}
use Rattle.quantiser_levels.specs.Paper.Samples.{Setting}
use Rattle.quantiser_table.specs.Least.{table_of}
use Rattle.matrix_sets.specs.Sets.{sets_size, sets_of}

unfoldable pub tables_of : Matrix → Setting → List ℕ
tables_of H S = table_of S ++ sets_of H

unfoldable pub tables_size : Matrix → ℕ
tables_size H = 2050 + sets_size H
