-- Laws of the cursors, which have for each column where its next row goes.
--   reached         == a row's place as the code adds it up
--   entry-alone     == no earlier entry of a row has the column of a later one
--   cursor-is       == the cursor of the next entry's column is at that entry's place
--   cursors-none    == before the first row each cursor is at its column's starting place
--   cursors-step    == one entry more
--   cursors-next    == the same as the code writes it
--   cursors-row     == a row with all of its entries passed is done
--   passed_none     == nothing is passed yet
--   passed-step     == passing one entry more moves one cursor, and none past the columns
--   passed-row      == a row with all of its entries passed is done
--   Spot            == the next place of the list, its column, and the place of the row there
--   spot_of         == the next entry has its spot
--   place-by        == counted from the index's starting places, the spot is that of the index
--   spot-place      == so the cursor tells the row's place in the index
--   spot-inside     == which lies in it
--   spot-low        == so no cursor outgrows its cell
-- Assumes nothing.
use mathlib.Core.Path.{◌≡◌, refl, sym, ◌∙◌}
use mathlib.Core.List.{List}
use mathlib.Core.Logic.{inl, inr}
use Prim.Native.Nat.{ℕ, suc, ◌+◌, ◌*◌, ◌<◌}
use native.Mathlib.Numerals.{add-one}
use native.Mathlib.Omega.{arith}
use lib.ListN.{length, set, length-set}
use lib.Seq.{get_or-set_other}
use Rattle.counting.specs.Paper.Sum.{sum_below}
use Rattle.counting.specs.Paper.Lists.{listed, over}
use Rattle.counting.specs.Places.{at}
use Rattle.counting.proofs.Sums.{sum-zero, same_refl, same-ne}
use Rattle.counting.proofs.Ascending.{ascending-lt}
use Rattle.counting.proofs.Writes.{stored, over-long, over-at}
use Rattle.matrix.specs.Paper.Code.{Matrix, entry, has}
use Rattle.matrix.specs.Paper.PlainCheck.{Accepted}
use Rattle.matrix.specs.Ordered.{Ordered}
use Rattle.matrix.proofs.Ordered.{few, in_list, column-in, column-below, columns-ascend}
use Rattle.matrix.proofs.Rows.{few-entries}
use Rattle.matrix_index.specs.Paper.Index.{column_start, index_size}
use Rattle.matrix_index.specs.Filling.{before, in_row, row_place, place_by, Cursors, Passed}
use Rattle.matrix_index.proofs.Parts.{place_inside}

-- the next place of the list, its column, and the place of the row there
pub record Spot (H : Matrix) (s : ℕ → ℕ) (i k : ℕ) (c : List ℕ) : Type 0 where
  pub place : i * H.rho + k < length H.list
  pub few : i * H.rho + k < 32736
  pub column : at H.list (i * H.rho + k) < 1023
  pub cursor : suc H.n + at c (at H.list (i * H.rho + k)) ≡ place_by H s i k

-- a row's place as the code adds it up
pub reached : (n c : ℕ) {p : ℕ} → suc n + c ≡ p → n + 1 + c ≡ p
reached n c e = omega (arith, e)

module _ (H : Matrix) (o : Ordered H) (s : ℕ → ℕ) where
  -- before the first row each cursor is at its column's starting place
  pub cursors-none : (old c : List ℕ) → length old ≡ 1023 → c ≡ over (listed H.n s) old → Cursors H s 0 0 c
  unfolding before in_row sum_below
  cursors-none old c l e =
      record {
        long = over-long H.n s old c e (omega (arith, l, o.sized.sizes.n_most)) ∙ l;
        each = λ j h. over-at H.n s old c e 0 j h ∙ omega arith;
      }

  -- nothing is passed yet
  pub passed_none : (i : ℕ) (c : List ℕ) → Cursors H s i 0 c → Passed H s i 0 c c
  passed_none i c u = record { cursors = u; beyond = λ j l. refl }

  module _ (i : ℕ) (row : i < H.m) where
    -- no earlier entry of a row has the column of a later one
    pub entry-alone : (k : ℕ) → k < H.rho → in_row H i k (entry H i k) ≡ 0
    unfolding in_row
    entry-alone k h =
        sum-zero k (λ q l. same-ne (entry H i q) (entry H i k) (λ e.
        omega (arith, ascending-lt (entry H i) H.rho (λ x. columns-ascend o i x row) q k l h)))

    module _ (k : ℕ) (h : k < H.rho) (c : List ℕ) (u : Cursors H s i k c) where
      -- the cursor of the next entry's column is at that entry's place
      pub cursor-is : suc H.n + at c (entry H i k) ≡ place_by H s i k
      unfolding place_by
      cursor-is = omega (arith, u.each (entry H i k) (column-in o i k row h), entry-alone k h)

      -- the next entry has its spot
      pub spot_of : Spot H s i k c
      unfolding entry
      spot_of =
          record {
            place = in_list o.sized i k row h;
            few = omega (arith, in_list o.sized i k row h, few o.sized);
            column = column-below o i k row h;
            cursor = cursor-is;
          }

      in-cursors : entry H i k < length c
      in-cursors = omega (arith, u.long, column-below o i k row h)

      -- one entry more
      pub cursors-step : Cursors H s i (k + 1) (set c (entry H i k) (at c (entry H i k) + 1))
      unfolding in_row sum_below
      cursors-step =
          rw (add-one k)
          record {
            long = length-set c (entry H i k) (at c (entry H i k) + 1) ∙ u.long;
            each = λ j l. elim (stored c (entry H i k) (at c (entry H i k) + 1) j in-cursors) [
              | inl e ↦ rw e.1 (omega (arith, rw e.1 at e.0, u.each (entry H i k) (column-in o i k row h), same_refl (entry H i k)))
              | inr e ↦ omega (arith, e.0, u.each j l, same-ne (entry H i k) j (λ q. e.1 (sym q)))
            ];
          }

      -- the same as the code writes it
      pub cursors-next : Cursors H s i (k + 1) (set c (at H.list (i * H.rho + k)) (at c (at H.list (i * H.rho + k)) + 1))
      unfolding entry
      cursors-next = cursors-step

    -- passing one entry more moves one cursor, and none past the columns
    pub passed-step : (k : ℕ) (c₀ c : List ℕ) → k < H.rho → Passed H s i k c₀ c
        → Passed H s i (k + 1) c₀ (set c (at H.list (i * H.rho + k)) (at c (at H.list (i * H.rho + k)) + 1))
    unfolding entry
    passed-step k c₀ c h p =
        record {
          cursors = cursors-next k h c p.cursors;
          beyond = λ j l.
              get_or-set_other c (entry H i k) j (at c (entry H i k) + 1) 0 (λ e. omega (arith, column-in o i k row h)) ∙ p.beyond j l;
        }

    -- a row with all of its entries passed is done
    pub cursors-row : (c : List ℕ) → Cursors H s i H.rho c → Cursors H s (i + 1) 0 c
    unfolding before in_row has sum_below
    cursors-row c u = rw (add-one i) record { long = u.long; each = λ j l. omega (arith, u.each j l) }

    pub passed-row : (c₀ c : List ℕ) → Passed H s i H.rho c₀ c → Passed H s (i + 1) 0 c₀ c
    passed-row c₀ c p = record { cursors = cursors-row c p.cursors; beyond = p.beyond }

-- counted from the index's starting places, the spot is that of the index
pub place-by : (H : Matrix) (s : ℕ → ℕ) (i k : ℕ) → s (entry H i k) ≡ column_start H (entry H i k) → place_by H s i k ≡ row_place H i k
unfolding place_by row_place
place-by H s i k e = omega (arith, e)

module _ (H : Matrix) (a : Accepted H) (i k : ℕ) (row : i < H.m) (h : k < H.rho) (c : List ℕ) (s : Spot H (column_start H) i k c) where
  -- so the cursor tells the row's place in the index
  pub spot-place : suc H.n + at c (at H.list (i * H.rho + k)) ≡ row_place H i k
  spot-place = s.cursor ∙ place-by H (column_start H) i k refl

  -- which lies in it
  pub spot-inside : suc H.n + at c (at H.list (i * H.rho + k)) < index_size H
  spot-inside = omega (arith, spot-place, place_inside H a.rows i k row h)

  -- so no cursor outgrows its cell
  pub spot-low : at c (at H.list (i * H.rho + k)) < 32736
  unfolding index_size
  spot-low = omega (arith, spot-inside, few-entries H a.sizes)
