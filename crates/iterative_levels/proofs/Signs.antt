-- A level and the number that keeps it: their sum and difference with the middle, in the machine's terms.
--   sum_fits          == the sum of a level and the middle fits a cell
--   sum_back          == that sum is the number that keeps the level
--   difference-fits   == the difference of the number and the middle fits a cell
--   level-back        == that difference is the level
--   level-cell        == a level from -L to L, with L at most that of the widest level, fits a cell
-- Assumes nothing.
use mathlib.Core.Path.{◌≡◌, refl, sym, ap, ap₂, ◌∙◌, subst}
use Prim.Native.Nat.{ℕ, zero, suc, ◌+◌, ◌-◌, ◌*◌, ◌≤◌, ◌<◌}
use native.Mathlib.Nat.{lt_of_lt_of_le}
use native.Mathlib.Decide.{dec_lt}
use native.Mathlib.Omega.{arith}
use lib.Dec.{lit≤}
use lib.IntN.{ℤ, pos, negsuc, nat_abs, sub_ℕ, ◌+ℤ◌, ◌-ℤ◌}
use mir.Val.{SFits, to_z, of_z}
use mir.ValLaws.{to_z_pos, to_z-of_z}
use Rattle.counting.proofs.Integers.{sub-ge, sub-lt}
use Rattle.iterative_levels.specs.Levels.{biased}
use Rattle.iterative_levels.proofs.Levels.{biased-le}
use Rattle.quantiser_levels.specs.Paper.Samples.{most_level}
use Rattle.quantiser_levels.proofs.Signs.{cell}

small : (x : ℕ) → x < 4096 → to_z cell x ≡ pos x
small x h = to_z_pos cell x (lt_of_lt_of_le {m = 4096} h (lit≤ tt))

-- ---- R + L

plus-middle : (r : ℤ) (L : ℕ) → nat_abs r ≤ L → r +ℤ pos L ≡ pos (biased L r)
plus-middle (pos k) L h = ap pos (omega arith)
plus-middle (negsuc k) L h = sub-ge L (suc k) (L - suc k) (omega arith)

module _ (r : ℤ) (L : ℕ) (few : L ≤ most_level) (h : nat_abs r ≤ L) (f : SFits cell r) where
  sum_is : to_z cell (of_z cell r) +ℤ to_z cell L ≡ pos (biased L r)
  sum_is = ap₂ ◌+ℤ◌ (to_z-of_z cell r f) (small L (omega arith)) ∙ plus-middle r L h

  -- the sum of a level and the middle fits a cell
  pub sum_fits : SFits cell (to_z cell (of_z cell r) +ℤ to_z cell L)
  sum_fits =
      subst (SFits cell) (sym sum_is) (record { sfits = lt_of_lt_of_le {m = 4096} (omega (arith, biased-le L r h)) (lit≤ tt) })

  -- that sum is the number that keeps the level
  pub sum_back : to_z cell (of_z cell (to_z cell (of_z cell r) +ℤ to_z cell L)) ≡ pos (biased L r)
  sum_back = to_z-of_z cell _ sum_fits ∙ sum_is

-- ---- and back

minus-middle : (x L : ℕ) → pos x -ℤ pos L ≡ sub_ℕ x L
minus-middle x zero = sym (sub-ge x 0 (x + 0) (omega arith))
minus-middle x (suc L) = refl

sub_small : (x L : ℕ) → L ≤ most_level → x ≤ 2 * L → SFits cell (sub_ℕ x L)
sub_small x L few h =
    elim (dec_lt x L) [
      | yes l ↦ rw (sub-lt x L (L - x - 1) (omega arith)) (record { sfits = lt_of_lt_of_le {m = 2048} (omega arith) (lit≤ tt) })
      | no g ↦ rw (sub-ge x L (x - L) (omega arith)) (record { sfits = lt_of_lt_of_le {m = 2048} (omega arith) (lit≤ tt) })
    ]

module _ (x L : ℕ) (few : L ≤ most_level) (h : x ≤ 2 * L) where
  difference-is : to_z cell x -ℤ to_z cell L ≡ sub_ℕ x L
  difference-is = ap₂ ◌-ℤ◌ (small x (omega arith)) (small L (omega arith)) ∙ minus-middle x L

  -- the difference of the number and the middle fits a cell
  pub difference-fits : SFits cell (to_z cell x -ℤ to_z cell L)
  difference-fits = subst (SFits cell) (sym difference-is) (sub_small x L few h)

  -- that difference is the level
  pub level-back : to_z cell (of_z cell (to_z cell x -ℤ to_z cell L)) ≡ sub_ℕ x L
  level-back = to_z-of_z cell _ difference-fits ∙ difference-is

-- ---- a level within the range fits a cell

-- a level from -L to L, with L at most that of the widest level, fits a cell
pub level-cell : (r : ℤ) (L : ℕ) → L ≤ most_level → nat_abs r ≤ L → SFits cell r
level-cell (pos k) L few h = record { sfits = lt_of_lt_of_le {m = 2048} (omega arith) (lit≤ tt) }
level-cell (negsuc k) L few h = record { sfits = lt_of_lt_of_le {m = 2048} (omega arith) (lit≤ tt) }
