-- Laws of a matrix as sets.
--   sets-long       == how many cells there are
--   sets-short      == of an accepted matrix at most 33,759
--   sets-cells      == as the code counts them
--   sets-room       == an array with room for them has room for the columns, and behind these for the rows
--   front-columns   == the columns over the front are the columns
--   front-size      == and that front has seventeen cells a column
--   sets-columns    == the columns' sets are the front
--   sets_rows       == the rows' sets are the rest
--   sets-written    == both written one behind the other are the sets
-- Assumes nothing.
use mathlib.Core.Path.{◌≡◌, refl, sym, ap, ◌∙◌}
use mathlib.Core.List.{List, ◌++◌}
use Prim.Native.Nat.{ℕ, ◌+◌, ◌-◌, ◌*◌, ◌≤◌}
use native.Mathlib.Omega.{arith}
use lib.ListN.{length, take, drop, length-append}
use lib.Seq.{length-take-le, take_at, drop_at}
use Rattle.counting.specs.Paper.Lists.{over}
use Rattle.counting.proofs.Parts.{over-whole, both-written}
use Rattle.matrix.specs.Paper.Code.{Matrix}
use Rattle.matrix.specs.Paper.PlainCheck.{Accepted}
use Rattle.matrix_columns.specs.Columns.{columns_size, columns_of}
use Rattle.matrix_columns.proofs.Columns.{columns-long, columns-short}
use Rattle.matrix_rows.specs.Rows.{rows_size, rows_of}
use Rattle.matrix_rows.proofs.Rows.{rows_long, rows_short}
use Rattle.matrix_sets.specs.Sets.{sets_of, sets_size}

module _ (H : Matrix) where
  -- how many cells there are
  pub sets-long : length (sets_of H) ≡ sets_size H
  unfolding sets_of sets_size
  sets-long = omega (arith, length-append (columns_of H) (rows_of H), columns-long H, rows_long H)

  -- of an accepted matrix
  pub sets-short : Accepted H → sets_size H ≤ 33759
  unfolding sets_size
  sets-short a = omega (arith, columns-short H a, rows_short H a)

  -- as the code counts them
  pub sets-cells : sets_size H ≡ 17 * H.n + 16 * H.m
  unfolding sets_size columns_size rows_size
  sets-cells = refl

  -- seventeen cells a column
  columns-cells : length (columns_of H) ≡ 17 * H.n
  unfolding columns_size
  columns-cells = columns-long H

  -- room for the columns, and behind these for the rows
  pub sets-room : {k : ℕ} → sets_size H ≤ k → (17 * H.n ≤ k) × (columns_size H ≤ 17 * H.n) × (17 * H.n + rows_size H ≤ k)
  unfolding sets_size columns_size
  sets-room h = (omega arith, omega arith, h)

  -- the columns over the front, which is as long
  pub front-columns : (old front : List ℕ) → 17 * H.n ≤ length old → front ≡ over (columns_of H) (take (17 * H.n) old) → front ≡ columns_of H
  front-columns old front h e = e ∙ over-whole (columns_of H) (take (17 * H.n) old) (columns-cells ∙ sym (length-take-le (17 * H.n) old h))

  -- so the front has 17 n cells
  pub front-size : (old front : List ℕ) → 17 * H.n ≤ length old → front ≡ over (columns_of H) (take (17 * H.n) old) → length front ≡ 17 * H.n
  front-size old front h e = ap length (front-columns old front h e) ∙ columns-cells

  -- the columns are the front
  pub sets-columns : (x : List ℕ) → x ≡ sets_of H → take (17 * H.n) x ≡ columns_of H
  unfolding sets_of
  sets-columns x e = ap (take (17 * H.n)) e ∙ take_at (columns_of H) (rows_of H) (17 * H.n) columns-cells

  -- the rows are the rest
  pub sets_rows : (x : List ℕ) → x ≡ sets_of H → drop (17 * H.n) x ≡ rows_of H
  unfolding sets_of
  sets_rows x e = ap (drop (17 * H.n)) e ∙ drop_at (columns_of H) (rows_of H) (17 * H.n) columns-cells

  -- both written one behind the other
  pub sets-written : (old front back : List ℕ) → 17 * H.n ≤ length old → front ≡ over (columns_of H) (take (17 * H.n) old)
      → back
      ≡ over (rows_of H) (take (length (front ++ drop (17 * H.n) old) - 17 * H.n) (drop (17 * H.n) (front ++ drop (17 * H.n) old)))
      → take (17 * H.n) (front ++ drop (17 * H.n) old)
      ++ (back ++ drop (length (front ++ drop (17 * H.n) old) - 17 * H.n) (drop (17 * H.n) (front ++ drop (17 * H.n) old)))
      ≡ over (sets_of H) old
  unfolding sets_of
  sets-written old front back h e d =
      both-written (columns_of H) (rows_of H) (17 * H.n) columns-cells old front back (front-columns old front h e) d
