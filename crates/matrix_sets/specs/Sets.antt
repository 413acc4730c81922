-- A matrix as sets, both ways.
--   sets_of H     == its columns as sets of rows with their weights, then its rows as sets of columns
--   sets_size H   == how many cells these are
-- Assumes nothing.
use Rattle.std.specs.Prelude.{List, ◌++◌, ℕ, ◌+◌}
use Rattle.matrix.specs.Paper.Code.{Matrix}
use Rattle.matrix_columns.specs.Columns.{columns_size, columns_of}
use Rattle.matrix_rows.specs.Rows.{rows_size, rows_of}

unfoldable pub sets_of : Matrix → List ℕ
sets_of H = columns_of H ++ rows_of H

unfoldable pub sets_size : Matrix → ℕ
sets_size H = columns_size H + rows_size H
