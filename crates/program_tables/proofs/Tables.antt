-- Laws of what a run keeps for its blocks.
--   tables-long     == how many cells the tables have
--   tables-room     == an array with room for them has room for the table and the sets
--   tables-short    == of an accepted matrix they fit the array of a run
--   tables-table    == the table of least magnitudes is their front
--   tables-sets     == the matrix as sets is the rest
--   front_long      == the table over the front leaves the array as long as it was
--   tables-written  == both written one behind the other are the tables
-- Assumes nothing.
use mathlib.Core.Path.{◌≡◌, ap, ◌∙◌}
use mathlib.Core.List.{List, ◌++◌}
use Prim.Native.Nat.{ℕ, ◌+◌, ◌-◌, ◌≤◌}
use native.Mathlib.Omega.{arith}
use lib.ListN.{length, take, drop, length-append}
use lib.Seq.{take_at, drop_at}
use Rattle.counting.specs.Paper.Lists.{over}
use Rattle.counting.proofs.Parts.{front_kept, both-written}
use Rattle.matrix.specs.Paper.Code.{Matrix}
use Rattle.matrix.specs.Paper.PlainCheck.{Accepted}
use Rattle.quantiser_levels.specs.Paper.Samples.{Setting}
use Rattle.quantiser_table.specs.Least.{table_of}
use Rattle.quantiser_table.proofs.Tables.{table-long}
use Rattle.matrix_sets.specs.Sets.{sets_size, sets_of}
use Rattle.matrix_sets.proofs.Sets.{sets-long, sets-short}
use Rattle.program_tables.specs.Tables.{tables_size, tables_of}

-- an array with room for them has room for the first
pub tables-room : (H : Matrix) (k : ℕ) → tables_size H ≤ k → 2050 + sets_size H ≤ k
unfolding tables_size
tables-room H k h = h

-- of an accepted matrix they fit the array of a run
pub tables-short : (H : Matrix) → Accepted H → tables_size H ≤ 35809
unfolding tables_size
tables-short H a = omega (arith, sets-short H a)

module _ (H : Matrix) (S : Setting) where
  -- how many cells there are
  pub tables-long : length (tables_of H S) ≡ tables_size H
  unfolding tables_of tables_size
  tables-long = omega (arith, length-append (table_of S) (sets_of H), table-long S, sets-long H)

  -- the table of least magnitudes is their front
  pub tables-table : (x : List ℕ) → x ≡ tables_of H S → take 2050 x ≡ table_of S
  unfolding tables_of
  tables-table x e = ap (take 2050) e ∙ take_at (table_of S) (sets_of H) 2050 (table-long S)

  -- the matrix as sets is the rest
  pub tables-sets : (x : List ℕ) → x ≡ tables_of H S → drop 2050 x ≡ sets_of H
  unfolding tables_of
  tables-sets x e = ap (drop 2050) e ∙ drop_at (table_of S) (sets_of H) 2050 (table-long S)

  -- the table over the front leaves the array as long as it was
  pub front_long : (old front : List ℕ) → 2050 ≤ length old → front ≡ table_of S → length (front ++ drop 2050 old) ≡ length old
  front_long old front h e = front_kept 2050 old front h (ap length e ∙ table-long S)

  -- both written one behind the other: the table over the front, the sets over all that is behind it
  pub tables-written : (old front back : List ℕ) → front ≡ table_of S
      → back ≡ over (sets_of H) (take (length (front ++ drop 2050 old) - 2050) (drop 2050 (front ++ drop 2050 old)))
      → take 2050 (front ++ drop 2050 old) ++ (back ++ drop (length (front ++ drop 2050 old) - 2050) (drop 2050 (front ++ drop 2050 old))) ≡ over (tables_of H S) old
  unfolding tables_of
  tables-written = both-written (table_of S) (sets_of H) 2050 (table-long S)
