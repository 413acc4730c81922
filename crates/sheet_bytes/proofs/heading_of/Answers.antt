-- `sheet_bytes::heading_of` meets its contract. Assumes nothing.
use Rattle.sheet.specs.Paper.Sheet.{block_rows, block_columns, block_size}
use Rattle.sheet_bytes.proofs.heading_of.Goals as goal

pub returns : goal.returns
unfolding block_rows block_columns block_size
returns c =
    let j = c.number_at-rows in
    let k = c.number_at-columns in
    let z = c.number_at-size in
    record {
      rows = j.ensures.0;
      columns = k.ensures.0;
      size = z.ensures.0;
      rows_small = j.ensures.1;
      columns_small = k.ensures.1;
      size_small = z.ensures.1;
    }
