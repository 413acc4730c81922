-- Laws of the table of least patterns.
--   least-most     == no least pattern is beyond that of infinity
--   least-before   == a pattern before the least one of q has a level below q
--   least-from     == one from there on, if below that of infinity, has a level of q or more
--   table-long     == the table has 2,050 cells
--   table_at       == its cell q has the least pattern of q
--   table-most     == no cell is beyond the pattern of infinity
--   confirmed      == a pattern from cell g on and before cell g + 1 is that of a finite magnitude whose level is g
--   table_filled   == an array written with the least patterns by the scale of a setting is its table
-- Assumes nothing.
use mathlib.Core.Path.{◌≡◌, ap, ◌∙◌}
use mathlib.Core.Bool.{true}
use mathlib.Core.List.{List, ◌++◌, append-nil}
use Prim.Native.Nat.{ℕ, ◌+◌, ◌*◌, ◌^◌, ◌≤◌, ◌<◌}
use native.Mathlib.Nat.{le_trans}
use native.Mathlib.Decide.{dec_lt}
use native.Mathlib.Omega.{arith}
use borrow.Author.Tests.{leb-true, leb-false}
use lib.Dec.{leb}
use lib.Ieee.{binary32, of_bits}
use lib.ListN.{length, get_or-eq_default, drop_of_length-le}
use Rattle.counting.specs.Paper.Lists.{listed, over}
use Rattle.counting.specs.Places.{at}
use Rattle.counting.proofs.Searches.{first-le, first_holds, first-before}
use Rattle.counting.proofs.Writes.{length-listed, get_or-listed, listed-cong}
use Rattle.quantiser_levels.specs.Paper.Samples.{Setting, setting_fits, magnitude}
use Rattle.quantiser_levels.specs.Scale.{Scaled}
use Rattle.quantiser_table.specs.Least.{most_pattern, least_pattern, table_of}
use Rattle.quantiser_table.specs.Scales.{least_by}
use Rattle.quantiser_table.proofs.Rising.{magnitude-rise, scaled}

module _ (S : Setting) where
  -- no least pattern is beyond that of infinity
  pub least-most : (q : ℕ) → least_pattern S q ≤ most_pattern
  unfolding least_pattern
  least-most q = first-le (λ p. leb q (magnitude S (of_bits binary32 p))) most_pattern

  -- a pattern before the least one of q has a level below q
  pub least-before : (q p : ℕ) → p < least_pattern S q → magnitude S (of_bits binary32 p) < q
  unfolding least_pattern
  least-before q p l = leb-false q _ (first-before (λ p. leb q (magnitude S (of_bits binary32 p))) most_pattern p l)

  -- one from there on, if below that of infinity, has a level of q or more
  least_at : (q : ℕ) → least_pattern S q < most_pattern → q ≤ magnitude S (of_bits binary32 (least_pattern S q))
  unfolding least_pattern
  least_at q l = leb-true q _ (first_holds (λ p. leb q (magnitude S (of_bits binary32 p))) most_pattern l)

  pub least-from : (q p : ℕ) → least_pattern S q ≤ p → p < most_pattern → q ≤ magnitude S (of_bits binary32 p)
  least-from q p h l = le_trans (least_at q (omega arith)) (magnitude-rise S (least_pattern S q) p h l)

  -- the table has 2,050 cells
  pub table-long : length (table_of S) ≡ 2050
  unfolding table_of
  table-long = length-listed 2050 (least_pattern S)

  -- its cell q has the least pattern of q
  pub table_at : (q : ℕ) → q < 2050 → at (table_of S) q ≡ least_pattern S q
  unfolding table_of
  table_at q l = get_or-listed 2050 (least_pattern S) q 0 l

  -- no cell is beyond the pattern of infinity
  pub table-most : (q : ℕ) → at (table_of S) q ≤ most_pattern
  table-most q =
      elim (dec_lt q 2050) [
        | yes l ↦ omega (arith, table_at q l, least-most q)
        | no n ↦
            let e : at (table_of S) q ≡ 0 = get_or-eq_default (table_of S) 0 (omega (arith, table-long)) in
            omega (arith, e)
      ]

  -- a pattern from cell g on and before cell g + 1 is that of a finite magnitude whose level is g
  pub confirmed : setting_fits S ≡ true → (g p : ℕ) → g < 2049 → at (table_of S) g ≤ p → p < at (table_of S) (g + 1)
      → (p < most_pattern) × (magnitude S (of_bits binary32 p) ≡ g)
  confirmed fit g p l from to =
      let a = table_at g (omega arith) in
      let b = table_at (g + 1) (omega arith) in
      let m : p < most_pattern = omega (arith, b, least-most (g + 1)) in
      let u : magnitude S (of_bits binary32 p) < g + 1 = least-before (g + 1) p (omega (arith, b)) in
      let d : g ≤ magnitude S (of_bits binary32 p) = least-from g p (omega (arith, a)) m in
      (m, omega arith)

-- an array as long as the table, written with the least patterns by the scale of the setting, is the table
pub table_filled : {S : Setting} {g t n k : ℕ} → Scaled S g t n k → (q : ℕ) (old new : List ℕ) → q ≡ 2050 → length old ≡ 2050
    → new ≡ over (listed q (least_by g t (n * 2 ^ k))) old → new ≡ table_of S
unfolding table_of over
table_filled {S} {g} {t} {n} {k} s q old new e long w =
    let f = least_by g t (n * 2 ^ k) in
    let h : length old ≤ length (listed q f) = omega (arith, length-listed q f) in
    w ∙ ap (λ (l : List ℕ). listed q f ++ l) (drop_of_length-le old h) ∙ append-nil (listed q f)
    ∙ listed-cong q f (least_pattern S) (λ i l. scaled S s i) ∙ ap (λ (x : ℕ). listed x (least_pattern S)) e
