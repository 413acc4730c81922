-- A circulant sheet in bytes: a grid of blocks, each zero or a shifted identity. (Document 02, card 5.)
--   block_rows bs, block_columns bs, block_size bs   == J, K and Z
--   map_bit bs p      == place p of the map, the map standing behind six bytes
--   set_at bs r c     == 1 where the block in block row r and block column c is set, 0 where it is clear
--   set_in bs r       == how many places are set in block row r
--   set_down bs c     == how many are set in block column c
--   set_places bs     == how many are set at all
--   shift_at bs q     == the q-th shift, the shifts standing behind the map
--   sheet_length bs   == how many bytes a sheet with this heading and map has
--   wrong_length, zero_size, spare_map, shift_too_far, unlike_rows   == the faults that the card names
--   no_sheet bs       == the bytes have one of them
-- Assumes nothing.
use Rattle.std.specs.Prelude.{ℕ, ◌+◌, ◌*◌, ◌-◌, Bool, not, ◌||◌, List, eqb, leb, length}
use Rattle.counting.specs.Paper.Sum.{sum_below}
use Rattle.counting.specs.Paper.Search.{any_below}
use Rattle.packed_word.specs.Paper.Packed.{bit_at, bytes_for}
use Rattle.byte_numbers.specs.Paper.Numbers.{number16}

-- "A sheet starts with J, K and Z, the block rows, block columns and block size, 16 bits each, low byte first"
unfoldable pub block_rows : List ℕ → ℕ
block_rows bs = number16 bs 0

unfoldable pub block_columns : List ℕ → ℕ
block_columns bs = number16 bs 2

unfoldable pub block_size : List ℕ → ℕ
block_size bs = number16 bs 4

-- "Then stands a bit map", "highest place first": six bytes are 48 places
unfoldable pub map_bit : List ℕ → ℕ → ℕ
map_bit bs p = bit_at bs (48 + p)

-- "of J × K places, row by row"
unfoldable pub set_at : List ℕ → ℕ → ℕ → ℕ
set_at bs r c = map_bit bs (r * block_columns bs + c)

-- "the set places in each block row"
unfoldable pub set_in : List ℕ → ℕ → ℕ
set_in bs r = sum_below (block_columns bs) (set_at bs r)

-- the "set places in a block column"
unfoldable pub set_down : List ℕ → ℕ → ℕ
set_down bs c = sum_below (block_rows bs) (λ r. set_at bs r c)

-- all places of the map that are set
unfoldable pub set_places : List ℕ → ℕ
set_places bs = sum_below (block_rows bs) (set_in bs)

-- "After it comes one 16-bit shift, low byte first, for each place that is set"
unfoldable pub shift_at : List ℕ → ℕ → ℕ
shift_at bs q = number16 bs (6 + bytes_for (block_rows bs * block_columns bs) + 2 * q)

-- six bytes, the map "padded with zeros to a byte", two bytes for each set place
unfoldable pub sheet_length : List ℕ → ℕ
sheet_length bs = 6 + bytes_for (block_rows bs * block_columns bs) + 2 * set_places bs

-- "wrong length"
unfoldable pub wrong_length : List ℕ → Bool
wrong_length bs = not (eqb (length bs) (sheet_length bs))

-- "a zero among J, K, Z"
unfoldable pub zero_size : List ℕ → Bool
zero_size bs = eqb (block_rows bs) 0 || (eqb (block_columns bs) 0 || eqb (block_size bs) 0)

-- "a spare map place set"
unfoldable pub spare_map : List ℕ → Bool
spare_map bs =
    any_below
    (λ i. eqb (map_bit bs (block_rows bs * block_columns bs + i)) 1)
    (8 * bytes_for (block_rows bs * block_columns bs) - block_rows bs * block_columns bs)

-- "a shift not below Z"
unfoldable pub shift_too_far : List ℕ → Bool
shift_too_far bs = any_below (λ q. leb (block_size bs) (shift_at bs q)) (set_places bs)

-- "block rows with unlike numbers of set places"
unfoldable pub unlike_rows : List ℕ → Bool
unlike_rows bs = any_below (λ r. not (eqb (set_in bs r) (set_in bs 0))) (block_rows bs)

-- "bytes that are not a sheet"
unfoldable pub no_sheet : List ℕ → Bool
no_sheet bs = wrong_length bs || (zero_size bs || (spare_map bs || (shift_too_far bs || unlike_rows bs)))
