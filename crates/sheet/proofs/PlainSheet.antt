-- The plain reading of a sheet: the bytes that are not refused by 11 are the sheets.
--   sheet-reads   == bytes are refused by 11 exactly where they are not a sheet
-- Assumes nothing.
use Prim.Native.Nat.{ℕ, ◌+◌, ◌*◌, ◌-◌, ◌≤◌, ◌<◌}
use mathlib.Core.Path.{◌≡◌, sym, ap, ◌∙◌}
use mathlib.Core.Bool.{Bool, true, false, not}
use mathlib.Core.List.{List}
use native.Mathlib.Omega.{arith}
use borrow.Author.Tests.{eqb-true, eqb-false, eq-eqb, ne_eqb, leb-false, lt-leb, not-false}
use lib.Dec.{eqb, leb}
use lib.ListN.{length}
use Rattle.counting.proofs.Searches.{or_left, or_right, or-neither, any-clear, any_none}
use Rattle.packed_word.specs.Paper.Packed.{bytes_for}
use Rattle.packed_word.proofs.Packed.{bit-bit}
use Rattle.sheet.specs.Paper.Sheet.{block_rows, block_columns, block_size, map_bit, set_in, set_places, shift_at, sheet_length}
use Rattle.sheet.specs.Paper.Sheet.{wrong_length, zero_size, spare_map, shift_too_far, unlike_rows, no_sheet}
use Rattle.sheet.specs.Paper.PlainSheet.{IsSheet}
use Rattle.sheet.specs.Paper.Claims.{SheetReads}

-- a number that is tested for 0 and is not
some : (x : ℕ) → eqb x 0 ≡ false → 0 < x
some x e = let ne : x ≡ 0 → ⊥ = eqb-false x 0 e in omega (arith, ne)

-- a negated test that fails
denied : (t : Bool) → t ≡ true → not t ≡ false
denied t e = ap not e

module _ (bs : List ℕ) where
  -- the tests that a search makes at each place
  abbrev spare_at : ℕ → Bool
  spare_at i = eqb (map_bit bs (block_rows bs * block_columns bs + i)) 1

  abbrev far_at : ℕ → Bool
  far_at q = leb (block_size bs) (shift_at bs q)

  abbrev unlike_at : ℕ → Bool
  unlike_at r = not (eqb (set_in bs r) (set_in bs 0))

  -- a place of the map is 0 or 1
  map-bit : (p : ℕ) → map_bit bs p < 2
  unfolding map_bit
  map-bit p = bit-bit bs (48 + p)

  -- the length, both ways
  long-is : wrong_length bs ≡ false → length bs ≡ sheet_length bs
  unfolding wrong_length
  long-is e = eqb-true (length bs) (sheet_length bs) (not-false _ e)

  is-long : length bs ≡ sheet_length bs → wrong_length bs ≡ false
  unfolding wrong_length
  is-long h = denied _ (eq-eqb (length bs) (sheet_length bs) h)

  -- no zero among the sizes, both ways
  sizes-are : zero_size bs ≡ false → (0 < block_rows bs) × (0 < block_columns bs) × (0 < block_size bs)
  unfolding zero_size
  sizes-are e =
      let e₁ = or_right (eqb (block_rows bs) 0) _ e in (
        some (block_rows bs) (or_left (eqb (block_rows bs) 0) _ e),
        some (block_columns bs) (or_left (eqb (block_columns bs) 0) _ e₁),
        some (block_size bs) (or_right (eqb (block_columns bs) 0) _ e₁),
      )

  are-sizes : 0 < block_rows bs → 0 < block_columns bs → 0 < block_size bs → zero_size bs ≡ false
  unfolding zero_size
  are-sizes j k z =
      or-neither _ _ (ne_eqb (block_rows bs) 0 (λ e. omega arith))
      (or-neither _ _ (ne_eqb (block_columns bs) 0 (λ e. omega arith)) (ne_eqb (block_size bs) 0 (λ e. omega arith)))

  -- spare places of the map are clear, both ways
  spare-is : spare_map bs ≡ false → (p : ℕ) → block_rows bs * block_columns bs ≤ p → p < 8 * bytes_for (block_rows bs * block_columns bs) → map_bit bs p ≡ 0
  unfolding spare_map
  spare-is e p l h =
      let n : ℕ = block_rows bs * block_columns bs in
      let here : n + (p - n) ≡ p = omega arith in
      let off : spare_at (p - n) ≡ false = any-clear spare_at (8 * bytes_for n - n) e (p - n) (omega arith) in
      let ne : map_bit bs p ≡ 1 → ⊥ = eqb-false (map_bit bs p) 1 (ap (λ (x : ℕ). eqb (map_bit bs x) 1) (sym here) ∙ off) in
      omega (arith, map-bit p, ne)

  is-spare : ((p : ℕ) → block_rows bs * block_columns bs ≤ p → p < 8 * bytes_for (block_rows bs * block_columns bs) → map_bit bs p ≡ 0) → spare_map bs ≡ false
  unfolding spare_map
  is-spare h =
      let n : ℕ = block_rows bs * block_columns bs in
      any_none spare_at (8 * bytes_for n - n) (λ i l. ne_eqb (map_bit bs (n + i)) 1 (λ e. omega (arith, h (n + i) (omega arith) (omega arith))))

  -- shifts are below the block size, both ways
  near-is : shift_too_far bs ≡ false → (q : ℕ) → q < set_places bs → shift_at bs q < block_size bs
  unfolding shift_too_far
  near-is e q l = leb-false (block_size bs) (shift_at bs q) (any-clear far_at (set_places bs) e q l)

  is-near : ((q : ℕ) → q < set_places bs → shift_at bs q < block_size bs) → shift_too_far bs ≡ false
  unfolding shift_too_far
  is-near h = any_none far_at (set_places bs) (λ q l. lt-leb (block_size bs) (shift_at bs q) (h q l))

  -- block rows have as many set places as the first, both ways
  alike_is : unlike_rows bs ≡ false → (r : ℕ) → r < block_rows bs → set_in bs r ≡ set_in bs 0
  unfolding unlike_rows
  alike_is e r l = eqb-true (set_in bs r) (set_in bs 0) (not-false _ (any-clear unlike_at (block_rows bs) e r l))

  is-alike : ((r : ℕ) → r < block_rows bs → set_in bs r ≡ set_in bs 0) → unlike_rows bs ≡ false
  unfolding unlike_rows
  is-alike h = any_none unlike_at (block_rows bs) (λ r l. denied _ (eq-eqb (set_in bs r) (set_in bs 0) (h r l)))

  -- bytes without a fault are a sheet
  sheet-is : no_sheet bs ≡ false → IsSheet bs
  unfolding no_sheet
  sheet-is e =
      let e₁ = or_right (wrong_length bs) _ e in
      let sizes = sizes-are (or_left (zero_size bs) _ e₁) in
      let e₂ = or_right (zero_size bs) _ e₁ in
      let e₃ = or_right (spare_map bs) _ e₂ in
      record {
        whole = long-is (or_left (wrong_length bs) _ e);
        rows_some = sizes.0;
        columns_some = sizes.1;
        size_some = sizes.2;
        padded = spare-is (or_left (spare_map bs) _ e₂);
        near = near-is (or_left (shift_too_far bs) _ e₃);
        alike = alike_is (or_right (shift_too_far bs) _ e₃);
      }

  -- and a sheet has no fault
  is-sheet : IsSheet bs → no_sheet bs ≡ false
  unfolding no_sheet
  is-sheet s =
      or-neither _ _ (is-long s.whole)
      (or-neither _ _ (are-sizes s.rows_some s.columns_some s.size_some)
      (or-neither _ _ (is-spare s.padded) (or-neither _ _ (is-near s.near) (is-alike s.alike))))

-- bytes are refused by 11 exactly where they are not a sheet
pub sheet-reads : (bs : List ℕ) → SheetReads bs
sheet-reads bs = record { is = sheet-is bs; so = is-sheet bs }
