-- What the code knows of a sheet's bytes before it knows that they are a sheet.
--   Headed bs h            == h is what the first six bytes say
--   Mapped bs              == there is a block row, and as many bytes as heading and map take
--   set_from bs from count == how many of `count` places of the map are set, from a place on
--   wrong_by_first bs      == the length is wrong if all block rows have as many set places as the first
-- Assumes nothing.
use Rattle.std.specs.Prelude.{ℕ, ◌+◌, ◌*◌, ◌≤◌, ◌<◌, ◌≡◌, Bool, not, List, eqb, length}
use Rattle.counting.specs.Paper.Sum.{sum_below}
use Rattle.packed_word.specs.Paper.Packed.{bytes_for}
use Rattle.sheet.specs.Paper.Sheet.{block_rows, block_columns, block_size, map_bit, set_in}
use Rattle.sheet_bytes.specs.declared.Heading.{Heading}

-- the heading, its numbers of 16 bits
pub record Headed (bs : List ℕ) (h : Heading) : Type 0 where
  pub rows : h.rows ≡ block_rows bs
  pub columns : h.columns ≡ block_columns bs
  pub size : h.size ≡ block_size bs
  pub rows_small : h.rows < 65536
  pub columns_small : h.columns < 65536
  pub size_small : h.size < 65536

-- the map is there, whole, and so its first block row
pub record Mapped (bs : List ℕ) : Type 0 where
  pub some : 0 < block_rows bs
  pub there : 6 + bytes_for (block_rows bs * block_columns bs) ≤ length bs

-- a part of the map counted: a block row where it begins with one and is as long
unfoldable pub set_from : List ℕ → ℕ → ℕ → ℕ
set_from bs from count = sum_below count (λ c. map_bit bs (from + c))

-- the length held against the first block row's set places, counted for every block row
unfoldable pub wrong_by_first : List ℕ → Bool
wrong_by_first bs = not (eqb (length bs) (6 + bytes_for (block_rows bs * block_columns bs) + 2 * (block_rows bs * set_in bs 0)))
