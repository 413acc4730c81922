-- A stored level of eight bits and one of sixteen, in the machine's terms.
--   wide_fits          == what fits eight bits fits sixteen
--   wide_back          == brought over it is the same number
--   narrow-fits        == a level within -127 to 127 fits eight bits
--   narrow_back        == taken back it is the same number
--   below, not-below   == the two tests by which a level does not lie within -127 to 127
-- Assumes nothing.
use mathlib.Core.Path.{◌≡◌, refl, sym, ◌∙◌}
use mathlib.Core.Bool.{true, false}
use Prim.Native.Nat.{ℕ, suc, ◌≤◌}
use native.Mathlib.Nat.{lt_of_lt_of_le}
use native.Mathlib.Omega.{arith}
use borrow.Author.Tests.{ltb-true, ltb-false, lt-ltb, le-ltb}
use lib.Dec.{ltb, lit≤}
use lib.IntN.{ℤ, pos, negsuc, nat_abs}
use lib.Signed.{lt_z}
use mir.Syntax.{w8}
use mir.Val.{SFits, to_z, of_z}
use mir.ValLaws.{to_z-of_z}
use Rattle.counting.proofs.Searches.{never}
use Rattle.quantiser_levels.proofs.Signs.{cell}
use Rattle.quantiser_widths.specs.Paper.Widths.{most_old}

-- ---- brought over

module _ (r : ℤ) (f : SFits w8 r) where
  -- what fits eight bits fits sixteen
  pub wide_fits : SFits cell (to_z w8 (of_z w8 r))
  wide_fits = rw (to_z-of_z w8 r f) (record { sfits = lt_of_lt_of_le f.sfits (lit≤ tt) })

  -- and is the same number there
  pub wide_back : to_z cell (of_z cell (to_z w8 (of_z w8 r))) ≡ r
  wide_back = to_z-of_z cell (to_z w8 (of_z w8 r)) wide_fits ∙ to_z-of_z w8 r f

-- ---- taken back

small : (r : ℤ) → nat_abs r ≤ most_old → SFits w8 r
small (pos k) h = record { sfits = lt_of_lt_of_le {m = 128} (omega arith) (lit≤ tt) }
small (negsuc k) h = record { sfits = lt_of_lt_of_le {m = 128} (omega arith) (lit≤ tt) }

module _ (r : ℤ) (f : SFits cell r) (h : nat_abs r ≤ most_old) where
  -- a level within -127 to 127 fits eight bits
  pub narrow-fits : SFits w8 (to_z cell (of_z cell r))
  narrow-fits = rw (to_z-of_z cell r f) (small r h)

  -- and is the same number there
  pub narrow_back : to_z w8 (of_z w8 (to_z cell (of_z cell r))) ≡ r
  narrow_back = to_z-of_z w8 (to_z cell (of_z cell r)) narrow-fits ∙ to_z-of_z cell r f

-- ---- within -127 to 127

-- below -127, or a number further down
pub below : (r : ℤ) (m : ℕ) → 126 ≤ m → lt_z r (negsuc m) ≡ true → ltb most_old (nat_abs r) ≡ true
below (pos k) m h e = absurd (never (sym e))
below (negsuc k) m h e = lt-ltb most_old (suc k) (omega (arith, ltb-true m k e))

-- not below -127: then above 127, or within
pub not-below : (r : ℤ) (m : ℕ) → m ≤ 126 → lt_z r (negsuc m) ≡ false → lt_z (pos 127) r ≡ ltb most_old (nat_abs r)
not-below (pos k) m h e = refl
not-below (negsuc k) m h e = sym (le-ltb most_old (suc k) (omega (arith, ltb-false m k e)))
