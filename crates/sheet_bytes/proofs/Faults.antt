-- Laws of the faults: each one searched for, and what the bytes are by all of them.
--   row_unlike, row_is_unlike                == whether a block row has another number of set places than the first, also by what was read
--   unlike-first, unlike-is                  == the first has not, and whether some has
--   wrong-is                                 == the length by the first one, as the code asks it
--   first_says                               == where they are alike the first one tells whether the length is wrong
--   spare_one                                == whether a spare place of the map is set
--   spare-is                                 == whether some is
--   too_far, number_too_far                  == whether a shift is not below the block size, also by what was read
--   long-is                                  == how long a sheet is, by the heading that was read
--   far-is                                   == whether some shift is not
--   zero_is                                  == a zero in the heading that was read is one in the bytes
--   length-right                             == where the length is not wrong it is that of a sheet
--   short-refused, zero-refused, unlike-refused   == bytes with one fault are no sheet
--   first-refused                            == nor are those whose length is wrong by the first block row
--   last-say                                 == without these the last two faults tell whether they are
-- Assumes nothing.
use mathlib.Core.Path.{◌≡◌, refl, sym, ap, ap₂, ◌∙◌}
use mathlib.Core.Bool.{Bool, true, false, not, ◌&&◌, ◌||◌}
use mathlib.Core.List.{List}
use Prim.Native.Nat.{ℕ, ◌+◌, ◌*◌, ◌-◌, ◌/◌, ◌<◌}
use native.Mathlib.Nat.{zero-mul}
use native.Mathlib.Omega.{arith}
use borrow.Author.Tests.{eq-eqb, eqb-true, not-false}
use lib.Dec.{eqb, leb}
use lib.ListN.{length}
use Rattle.counting.specs.Paper.Search.{any_below}
use Rattle.counting.proofs.Sums.{sum-cong, sum-const}
use Rattle.counting.proofs.Searches.{never, cases, or_left, or_right, any-cong, any-clear}
use Rattle.packed_word.specs.Paper.Packed.{bytes_for}
use Rattle.byte_numbers.specs.Paper.Numbers.{number16}
use Rattle.sheet.specs.Paper.Sheet.{block_rows, block_columns, block_size, map_bit, set_in, set_places, shift_at, sheet_length, wrong_length, zero_size, spare_map, shift_too_far, unlike_rows, no_sheet}
use Rattle.sheet_bytes.specs.declared.Heading.{Heading}
use Rattle.sheet_bytes.specs.Parts.{Headed, set_from, wrong_by_first}
use Rattle.sheet_bytes.proofs.Maps.{places-are, from_first, from_row}

-- ---- block rows

-- whether a block row has another number of set places than the first
abbrev pub row_unlike : List ℕ → ℕ → Bool
row_unlike bs r = not (eqb (set_in bs r) (set_in bs 0))

-- the same by the columns and the first block row's count that were read
abbrev pub row_is_unlike : List ℕ → ℕ → ℕ → ℕ → Bool
row_is_unlike bs k first r = not (eqb (set_from bs (r * k) k) first)

module _ {bs : List ℕ} {h : Heading} (d : Headed bs h) (first : ℕ) (e : first ≡ set_from bs 0 h.columns) where
  -- the first has not
  pub unlike-first : row_is_unlike bs h.columns first 0 ≡ false
  unlike-first = ap not (eq-eqb (set_from bs (0 * h.columns) h.columns) first (ap (λ (p : ℕ). set_from bs p h.columns) (zero-mul h.columns) ∙ sym e))

  -- whether some has, by what was read
  pub unlike-is : any_below (row_is_unlike bs h.columns first) h.rows ≡ unlike_rows bs
  unfolding unlike_rows
  unlike-is =
      ap (any_below (row_is_unlike bs h.columns first)) d.rows
      ∙ any-cong (row_is_unlike bs h.columns first) (row_unlike bs) (block_rows bs)
      (λ r l. ap₂ (λ (x y : ℕ). not (eqb x y)) (from_row d r) (e ∙ from_first d))

module _ (bs : List ℕ) where
  -- where block rows are alike all places are as many times those of the first
  places-alike : unlike_rows bs ≡ false → set_places bs ≡ block_rows bs * set_in bs 0
  unfolding unlike_rows set_places
  places-alike h =
      sum-cong (block_rows bs) (λ r l. eqb-true (set_in bs r) (set_in bs 0) (not-false _ (any-clear (row_unlike bs) (block_rows bs) h r l)))
      ∙ sum-const (block_rows bs) (set_in bs 0)

  -- and so the first one tells whether the length is wrong
  pub first_says : unlike_rows bs ≡ false → wrong_by_first bs ≡ wrong_length bs
  unfolding wrong_by_first wrong_length sheet_length
  first_says h =
      ap (λ (s : ℕ). not (eqb (length bs) (6 + bytes_for (block_rows bs * block_columns bs) + 2 * s))) (sym (places-alike h))

-- the length by the first block row, by the heading and the counts that were read
pub wrong-is : {bs : List ℕ} {h : Heading} → Headed bs h → (b x : ℕ) → b ≡ bytes_for (h.rows * h.columns)
    → x ≡ set_from bs 0 h.columns → not (eqb (length bs) (6 + b + 2 * (h.rows * x))) ≡ wrong_by_first bs
unfolding wrong_by_first
wrong-is {bs} {h} d b x f e =
    ap₂ (λ (y s : ℕ). not (eqb (length bs) (6 + y + 2 * s))) (f ∙ ap bytes_for (places-are d)) (ap₂ ◌*◌ d.rows (e ∙ from_first d))

-- ---- spare places

-- whether a spare place of the map is set
abbrev pub spare_one : List ℕ → ℕ → ℕ → Bool
spare_one bs n i = eqb (map_bit bs (n + i)) 1

module _ {bs : List ℕ} {h : Heading} (d : Headed bs h) where
  -- all spare places, by the heading that was read
  pub spare-is : spare_map bs ≡ any_below (spare_one bs (h.rows * h.columns)) (8 * bytes_for (h.rows * h.columns) - h.rows * h.columns)
  unfolding spare_map
  spare-is = ap (λ (n : ℕ). any_below (spare_one bs n) (8 * bytes_for n - n)) (sym (places-are d))

-- ---- shifts

-- whether a shift is not below the block size
abbrev pub too_far : List ℕ → ℕ → Bool
too_far bs q = leb (block_size bs) (shift_at bs q)

-- the same by the number at its place behind heading and map
abbrev pub number_too_far : List ℕ → ℕ → ℕ → ℕ → Bool
number_too_far bs z shifts q = leb z (number16 bs (shifts + 2 * q))

module _ {bs : List ℕ} {h : Heading} (d : Headed bs h) where
  -- how long a sheet is, by the heading that was read
  pub long-is : length bs ≡ sheet_length bs → length bs ≡ 6 + bytes_for (h.rows * h.columns) + 2 * set_places bs
  unfolding sheet_length
  long-is w = w ∙ ap (λ (n : ℕ). 6 + bytes_for n + 2 * set_places bs) (sym (places-are d))

  -- whether a shift is too far, by what was read
  pub far-is : length bs ≡ sheet_length bs → (b : ℕ) → b ≡ bytes_for (h.rows * h.columns)
      → any_below (number_too_far bs h.size (6 + b)) ((length bs - (6 + b)) / 2) ≡ shift_too_far bs
  unfolding shift_too_far shift_at
  far-is w b e =
      ap₂ (λ (z y : ℕ). any_below (number_too_far bs z (6 + y)) ((length bs - (6 + y)) / 2)) d.size (e ∙ ap bytes_for (places-are d))
      ∙ ap (any_below _) (omega (arith, long-is w, ap bytes_for (places-are d)))

-- ---- all faults

-- neither of two faults, as the code asks it
neither : (s f : Bool) → (not s && not f) ≡ not (s || (f || false))
neither true f = refl
neither false true = refl
neither false false = refl

module _ {bs : List ℕ} {h : Heading} (d : Headed bs h) where
  -- a zero among the numbers of the heading that was read
  pub zero_is : (eqb h.rows 0 || (eqb h.columns 0 || eqb h.size 0)) ≡ zero_size bs
  unfolding zero_size
  zero_is = rw (d.rows, d.columns, d.size)

module _ (bs : List ℕ) where
  -- bytes that cannot be without a fault are no sheet
  refused-by : (no_sheet bs ≡ false → ⊥) → false ≡ not (no_sheet bs)
  refused-by h = cases (no_sheet bs) (λ y. sym (ap not y)) (λ n. absurd (h n))

  -- where the length is right it is that of a sheet
  pub length-right : wrong_length bs ≡ false → length bs ≡ sheet_length bs
  unfolding wrong_length
  length-right w = eqb-true (length bs) (sheet_length bs) (not-false (eqb (length bs) (sheet_length bs)) w)

  -- too few bytes for heading and map are no sheet
  pub short-refused : length bs < 6 + bytes_for (block_rows bs * block_columns bs) → false ≡ not (no_sheet bs)
  unfolding no_sheet sheet_length
  short-refused l = refused-by (λ n. omega (arith, length-right (or_left (wrong_length bs) _ n)))

  -- nor are those with a zero in the heading
  pub zero-refused : zero_size bs ≡ true → false ≡ not (no_sheet bs)
  unfolding no_sheet
  zero-refused e = refused-by (λ n. never (sym e ∙ or_left (zero_size bs) _ (or_right (wrong_length bs) _ n)))

  -- a sheet's block rows are alike
  sheet-alike : no_sheet bs ≡ false → unlike_rows bs ≡ false
  unfolding no_sheet
  sheet-alike n = or_right (shift_too_far bs) _ (or_right (spare_map bs) _ (or_right (zero_size bs) _ (or_right (wrong_length bs) _ n)))

  -- bytes with unlike block rows are no sheet
  pub unlike-refused : unlike_rows bs ≡ true → false ≡ not (no_sheet bs)
  unlike-refused e = refused-by (λ n. never (sym e ∙ sheet-alike n))

  -- nor are those whose length is wrong by the first: block rows are unlike, or the length is wrong
  pub first-refused : wrong_by_first bs ≡ true → false ≡ not (no_sheet bs)
  unfolding no_sheet
  first-refused e = refused-by (λ n. never (sym e ∙ first_says bs (sheet-alike n) ∙ or_left (wrong_length bs) _ n))

  -- the last two faults, where the bytes have none of the others
  pub last-say : (s f : Bool) → wrong_length bs ≡ false → zero_size bs ≡ false → unlike_rows bs ≡ false → s ≡ spare_map bs → f ≡ shift_too_far bs
      → (not s && not f) ≡ not (no_sheet bs)
  unfolding no_sheet
  last-say s f w z u a b = rw (w, z, u, sym a, sym b) (neither s f)
