-- Laws of the map: where it stands, and its places counted.
--   product_small              == a product of two numbers of 16 bits is below 2 to the 32
--   places-are, places-few     == the map's places by the heading that was read, and that they are few
--   map-there                  == the map's bytes by that heading are there
--   row-there                  == so are the places of a block row
--   from-none, from_more       == places counted: none, and one more
--   from-few                   == no more are set than are counted
--   from_row, from_first       == a block row counted, and the first one
-- Assumes nothing.
use mathlib.Core.Path.{◌≡◌, refl, sym, ap, ap₂, ◌∙◌}
use mathlib.Core.List.{List}
use Prim.Native.Nat.{ℕ, ◌+◌, ◌*◌, ◌≤◌, ◌<◌}
use native.Mathlib.Nat.{mul-le-mul, zero-mul, suc-mul}
use native.Mathlib.Numerals.{add-one}
use native.Mathlib.Omega.{arith}
use lib.ListN.{length}
use Rattle.counting.specs.Paper.Sum.{sum_below}
use Rattle.counting.proofs.Sums.{sum_bound}
use Rattle.packed_word.specs.Paper.Packed.{bytes_for}
use Rattle.packed_word.proofs.Packed.{bit-bit}
use Rattle.sheet.specs.Paper.Sheet.{block_rows, block_columns, map_bit, set_at, set_in}
use Rattle.sheet_bytes.specs.declared.Heading.{Heading}
use Rattle.sheet_bytes.specs.Parts.{Headed, Mapped, set_from}

-- a product of two numbers of 16 bits
pub product_small : (a b : ℕ) → a < 65536 → b < 65536 → a * b ≤ 4294836225
product_small a b h l = mul-le-mul {n₁ = a} {m₁ = b} {n₂ = 65535} {m₂ = 65535} (omega arith) (omega arith)

-- ---- where the map stands

module _ {bs : List ℕ} {h : Heading} (d : Headed bs h) where
  -- the map's places by the heading that was read
  pub places-are : h.rows * h.columns ≡ block_rows bs * block_columns bs
  places-are = ap₂ ◌*◌ d.rows d.columns

  -- they are few
  pub places-few : h.rows * h.columns ≤ 4294836225
  places-few = product_small h.rows h.columns d.rows_small d.columns_small

  -- the map's bytes by that heading are there
  pub map-there : Mapped bs → 6 + bytes_for (h.rows * h.columns) ≤ length bs
  map-there m = omega (arith, m.there, places-are)

  -- so are the places of a block row
  pub row-there : Mapped bs → (r : ℕ) → r < h.rows
      → (48 + (r * h.columns + h.columns) ≤ 8 * length bs) × (r * h.columns + h.columns ≤ 8589934592)
  row-there m r l =
      let in_map : r * h.columns + h.columns ≤ h.rows * h.columns =
      omega (arith, suc-mul r h.columns, mul-le-mul {n₁ = 1 + r} {m₁ = h.columns} {n₂ = h.rows} {m₂ = h.columns} (omega arith) (omega arith)) in
      (omega (arith, in_map, map-there m), omega (arith, in_map, places-few))

-- ---- places counted

module _ (bs : List ℕ) where
  -- no place is counted yet
  pub from-none : (from : ℕ) → 0 ≡ set_from bs from 0
  unfolding set_from sum_below
  from-none from = refl

  -- one place more
  pub from_more : (from c found x : ℕ) → found ≡ set_from bs from c → x ≡ map_bit bs (from + c) → found + x ≡ set_from bs from (c + 1)
  unfolding set_from sum_below
  from_more from c found x h e = rw (add-one c) (ap₂ ◌+◌ h e)

  -- a place of the map is 0 or 1
  pub map-small : (p : ℕ) → map_bit bs p ≤ 1
  unfolding map_bit
  map-small p = omega (arith, bit-bit bs (48 + p))

  -- no more are set than are counted
  pub from-few : (from c : ℕ) → set_from bs from c ≤ c
  unfolding set_from
  from-few from c = omega (arith, sum_bound c 1 {f = λ i. map_bit bs (from + i)} (λ i l. map-small (from + i)))

  row_is : (r : ℕ) → set_from bs (r * block_columns bs) (block_columns bs) ≡ set_in bs r
  unfolding set_from set_in set_at
  row_is r = refl

module _ {bs : List ℕ} {h : Heading} (d : Headed bs h) where
  -- a block row counted
  pub from_row : (r : ℕ) → set_from bs (r * h.columns) h.columns ≡ set_in bs r
  from_row r = ap (λ (k : ℕ). set_from bs (r * k) k) d.columns ∙ row_is bs r

  -- the first one
  pub from_first : set_from bs 0 h.columns ≡ set_in bs 0
  from_first = ap (λ (p : ℕ). set_from bs p h.columns) (sym (zero-mul h.columns)) ∙ from_row 0
