-- Laws of a sheet that is lent with its heading: where its map and its shifts stand, and how large what is counted there gets.
--   place_small                      == a place of the map is below 65,535 squared
--   place_there                      == and lies in the bytes
--   place-bit                        == it is clear or set
--   set-none, set_more               == the set places of a block row: none yet, and one block more
--   down-is, down-few                == the places of a block column summed up are its set places, no more than there are block rows
--   low-none, low-more               == the fewest of no block column, and of one more
--   row-set                          == a block row has rho set places
--   map-small                        == the map is no longer than the largest
--   before_small                     == nor are there more shifts before a block row
--   shift-place                      == where the k-th shift of a block row stands
--   shift-there                      == both its bytes are there
--   shifts-there, shifts-read        == and those of all shifts of the block row, which are the numbers that they hold
--   block_inside                     == a block ends within 1,023 columns
--   row_inside                       == and a block row within the list
-- Assumes nothing.
use mathlib.Core.Path.{◌≡◌, refl, sym, ap, ap₂, ◌∙◌}
use mathlib.Core.List.{List}
use Prim.Native.Nat.{ℕ, suc, min, ◌+◌, ◌*◌, ◌-◌, ◌≤◌, ◌<◌}
use native.Mathlib.Nat.{suc-mul, mul-le-mul, mul-le-mul_right}
use native.Mathlib.Numerals.{add-one}
use native.Mathlib.Omega.{arith}
use lib.Arith.{digits_lt}
use lib.ListN.{length, get_or, take, drop, length-drop}
use lib.Seq.{length-take-le}
use Rattle.std.proofs.lemmas.List.{get_or-take, get_or-drop}
use Rattle.counting.specs.Paper.Lists.{listed}
use Rattle.counting.proofs.Writes.{listed-cong}
use Rattle.std.specs.List.{range_with_len, sum_by}
use Rattle.counting.specs.Paper.Sum.{sum_below, least}
use Rattle.counting.proofs.Sums.{sum_bound}
use Rattle.packed_word.specs.Paper.Packed.{bytes_for}
use Rattle.byte_numbers.specs.Paper.Numbers.{number16, entry_in, entries_in}
use Rattle.sheet.specs.Paper.Sheet.{block_rows, block_columns, map_bit, set_at, set_in, set_down, shift_at, sheet_length}
use Rattle.sheet.specs.Paper.PlainSheet.{IsSheet}
use Rattle.sheet_bytes.specs.declared.Heading.{Heading}
use Rattle.sheet_bytes.specs.Parts.{Headed}
use Rattle.sheet_bytes.proofs.Maps.{places-are, places-few}
use Rattle.sheet_bytes.proofs.Ranges.{sum_range}
use Rattle.sheet_rows.specs.Parts.{shift_from, SheetLent}
use Rattle.sheet.proofs.Entries.{set-bit, places-set}

module _ (bs : List ℕ) (s : IsSheet bs) (h : Heading) (d : Headed bs h) where
  -- a place of the map is below 65,535 squared
  pub place_small : (r c : ℕ) → r < h.rows → c < h.columns → r * h.columns + c < 4294836225
  place_small r c l g =
      omega (arith, digits_lt {q = r} {m = h.rows} {r = c} {c = h.columns} l g, places-few d)

  -- and lies in the bytes
  pub place_there : (r c : ℕ) → r < h.rows → c < h.columns → 48 + (r * h.columns + c) < 8 * length bs
  unfolding sheet_length
  place_there r c l g = omega (arith, digits_lt {q = r} {m = h.rows} {r = c} {c = h.columns} l g, places-are d, s.whole)

-- ---- set places counted

module _ (bs : List ℕ) (h : Heading) (d : Headed bs h) where
  -- no block is set yet
  pub set-none : (r : ℕ) → 0 ≡ sum_below 0 (set_at bs r)
  unfolding sum_below
  set-none r = refl

  -- a place as the code reads it
  place_set : (r c : ℕ) → map_bit bs (r * h.columns + c) ≡ set_at bs r c
  unfolding set_at
  place_set r c = ap (λ (k : ℕ). map_bit bs (r * k + c)) d.columns

  -- it is clear or set
  pub place-bit : (r c : ℕ) → map_bit bs (r * h.columns + c) ≤ 1
  place-bit r c = omega (arith, place_set r c, set-bit bs r c)

  -- one block more of a block row
  pub set_more : (r c : ℕ) → sum_below c (set_at bs r) + map_bit bs (r * h.columns + c) ≡ sum_below (c + 1) (set_at bs r)
  unfolding sum_below
  set_more r c = rw (add-one c) (ap (λ (x : ℕ). sum_below c (set_at bs r) + x) (place_set r c))

  -- the places of block column c, summed up
  pub down-is : (c : ℕ) → sum_by (λ r. map_bit bs (r * h.columns + c)) (range_with_len 0 h.rows) ≡ set_down bs c
  unfolding set_down
  down-is c =
      let f : ℕ → ℕ = λ r. map_bit bs (r * h.columns + c) in
      sum_range f (λ r. set_at bs r c) 0 h.rows (λ r. ap f (omega arith) ∙ place_set r c)
      ∙ ap (λ (k : ℕ). sum_below k (λ r. set_at bs r c)) d.rows

  -- there are no more than block rows
  pub down-few : (c : ℕ) → set_down bs c ≤ h.rows
  unfolding set_down
  down-few c = omega (arith, sum_bound (block_rows bs) 1 {f = λ r. set_at bs r c} (λ r l. omega (arith, set-bit bs r c)), d.rows)

  -- the fewest of no block column
  pub low-none : h.rows ≡ least (block_rows bs) 0 (set_down bs)
  unfolding least
  low-none = d.rows

-- the fewest of one block column more
pub low-more : (bs : List ℕ) (c low x y : ℕ) → low ≡ least (block_rows bs) c (set_down bs) → x ≡ set_down bs c → y ≡ min low x
    → y ≡ least (block_rows bs) (c + 1) (set_down bs)
unfolding least
low-more bs c low x y e f g = rw (g, e, f, add-one c) refl

-- ---- numbers in a part of the bytes

-- the numbers that a part holds are those that stand there
entries-part : (bs : List ℕ) (p n : ℕ) → p + 2 * n ≤ length bs → entries_in (take (2 * n) (drop p bs)) ≡ listed n (λ k. number16 bs (p + 2 * k))
unfolding entries_in entry_in number16
entries-part bs p n h =
    let part : List ℕ = take (2 * n) (drop p bs) in
    let long : length part ≡ 2 * n = length-take-le (2 * n) (drop p bs) (omega (arith, length-drop p bs)) in
    let byte : (i : ℕ) → i < 2 * n → get_or part i 0 ≡ get_or bs (p + i) 0 =
    λ i l. get_or-take (2 * n) (drop p bs) i 0 l ∙ get_or-drop p bs i 0 in
    ap (λ (m : ℕ). listed m (entry_in part)) (omega (arith, long))
    ∙ listed-cong n (entry_in part) (λ k. number16 bs (p + 2 * k))
    (λ k l. ap₂ (λ (x y : ℕ). x + 256 * y) (byte (2 * k) (omega arith)) (byte (2 * k + 1) (omega arith) ∙ ap (λ (i : ℕ). get_or bs i 0) (omega arith)))

-- ---- a sheet whose list is asked for

module _ (bs : List ℕ) (h : Heading) (rho : ℕ) (t : SheetLent bs h rho) where
  -- a block row has rho set places
  pub row-set : (r : ℕ) → r < h.rows → sum_below (block_columns bs) (set_at bs r) ≡ rho
  unfolding set_in
  row-set r l = t.sheet.alike r (omega (arith, t.headed.rows)) ∙ sym t.row

  -- the map is no longer than the largest
  pub map-small : bytes_for (h.rows * h.columns) ≤ 536854529
  map-small = omega (arith, places-few t.headed)

  -- nor are there more shifts before a block row
  pub before_small : (r : ℕ) → r < h.rows → r * rho ≤ 2097120
  before_small r l = mul-le-mul {n₁ = r} {m₁ = rho} {n₂ = 65535} {m₂ = 32} (omega (arith, t.headed.rows_small)) t.few

  -- where the k-th shift of a block row stands
  pub shift-place : (r k : ℕ) → number16 bs (6 + bytes_for (h.rows * h.columns) + 2 * (r * rho) + 2 * k) ≡ shift_from bs (r * rho) k
  unfolding shift_from shift_at
  shift-place r k = ap (number16 bs) (omega (arith, places-are t.headed))

  -- both its bytes are there
  pub shift-there : (r k : ℕ) → r < h.rows → k < rho → 6 + bytes_for (h.rows * h.columns) + 2 * (r * rho) + 2 * k + 1 < length bs
  unfolding sheet_length
  shift-there r k l g =
      omega (
        arith,
        places-are t.headed,
        t.sheet.whole,
        places-set bs t.sheet,
        ap₂ ◌*◌ t.headed.rows t.row,
        digits_lt {q = r} {m = h.rows} {r = k} {c = rho} l g,
      )

  -- and those of all shifts of the block row
  pub shifts-there : (r : ℕ) → r < h.rows → 6 + bytes_for (h.rows * h.columns) + 2 * (r * rho) + 2 * rho ≤ length bs
  unfolding sheet_length
  shifts-there r l =
      omega (
        arith,
        places-are t.headed,
        t.sheet.whole,
        places-set bs t.sheet,
        ap₂ ◌*◌ t.headed.rows t.row,
        suc-mul r rho,
        mul-le-mul_right {m = suc r} {n = h.rows} rho l,
      )

  -- so the numbers that they hold are its shifts
  pub shifts-read : (r b p : ℕ) → r < h.rows → b ≡ bytes_for (h.rows * h.columns) → p ≡ 6 + b + 2 * (r * rho)
      → entries_in (take (p + 2 * rho - p) (drop p bs)) ≡ listed rho (shift_from bs (r * rho))
  shifts-read r b p l e q =
      ap (λ (n : ℕ). entries_in (take n (drop p bs))) (omega arith)
      ∙ entries-part bs p rho (omega (arith, shifts-there r l))
      ∙ listed-cong rho (λ k. number16 bs (p + 2 * k)) (shift_from bs (r * rho))
      (λ k g. ap (λ (x : ℕ). number16 bs (x + 2 * k)) (omega arith) ∙ shift-place r k)

  -- a block ends within 1,023 columns
  pub block_inside : (c : ℕ) → c < h.columns → c * h.size + h.size ≤ 1023
  block_inside c l = omega (arith, t.wide, suc-mul c h.size, mul-le-mul_right {m = suc c} {n = h.columns} h.size l)

  -- and a block row within the list
  pub row_inside : (r : ℕ) → r < h.rows → r * (h.size * rho) + h.size * rho ≤ h.rows * (h.size * rho)
  row_inside r l = omega (arith, suc-mul r (h.size * rho), mul-le-mul_right {m = suc r} {n = h.rows} (h.size * rho) l)
