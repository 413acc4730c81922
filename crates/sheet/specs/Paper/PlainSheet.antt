-- The plain reading of a sheet: what its bytes say, in statements and not in tests.
--   IsSheet bs   == the bytes are a sheet
-- proofs/PlainSheet.antt shows that these are the bytes that are not refused. Assumes nothing.
use Rattle.std.specs.Prelude.{ℕ, ◌*◌, ◌≤◌, ◌<◌, ◌≡◌, List, length}
use Rattle.packed_word.specs.Paper.Packed.{bytes_for}
use Rattle.sheet.specs.Paper.Sheet.{block_rows, block_columns, block_size, map_bit, set_in, set_places, shift_at, sheet_length}

pub record IsSheet (bs : List ℕ) : Type 0 where
  pub whole : length bs ≡ sheet_length bs
  pub rows_some : 0 < block_rows bs
  pub columns_some : 0 < block_columns bs
  pub size_some : 0 < block_size bs
  pub padded : (p : ℕ) → block_rows bs * block_columns bs ≤ p → p < 8 * bytes_for (block_rows bs * block_columns bs) → map_bit bs p ≡ 0
  pub near : (q : ℕ) → q < set_places bs → shift_at bs q < block_size bs
  pub alike : (r : ℕ) → r < block_rows bs → set_in bs r ≡ set_in bs 0
