-- What the earlier refusals leave to the later ones: where entries stand, and what they are.
--   few              == the list has at most 32,736 entries
--   in_list          == entry k of row i stands in the list
--   column-in        == its column number is below n
--   column-below     == its column number is below 1023
--   columns-ascend   == the column numbers of a row ascend
--   accepted-ordered == an accepted matrix has all of this
-- Assumes nothing.
use Prim.Native.Nat.{ℕ, suc, ◌+◌, ◌*◌, ◌≤◌, ◌<◌}
use native.Mathlib.Omega.{arith}
use lib.ListN.{length}
use Rattle.matrix.specs.Paper.Code.{Matrix, entry}
use Rattle.matrix.specs.Ordered.{Sized, Ordered}
use Rattle.matrix.specs.Paper.PlainCheck.{Accepted}
use Rattle.matrix.proofs.Rows.{few-entries, stands}
use Rattle.matrix.proofs.PlainCheck.{clear-below, clear-ascending, rows-clear}

module _ {H : Matrix} (z : Sized H) where
  -- the list has at most 32,736 entries
  pub few : length H.list ≤ 32736
  few = omega (arith, z.whole, few-entries H z.sizes)

  -- entry k of row i stands in the list
  pub in_list : (i k : ℕ) → i < H.m → k < H.rho → i * H.rho + k < length H.list
  in_list i k l h = stands H z.whole i k l h

module _ {H : Matrix} (o : Ordered H) where
  -- its column number is below n
  pub column-in : (i k : ℕ) → i < H.m → k < H.rho → entry H i k < H.n
  column-in = clear-below H o.sized.whole o.clear

  -- its column number is below 1023
  pub column-below : (i k : ℕ) → i < H.m → k < H.rho → entry H i k < 1023
  column-below i k l h = omega (arith, column-in i k l h, o.sized.sizes.n_most)

  -- the column numbers of a row ascend
  pub columns-ascend : (i k : ℕ) → i < H.m → suc k < H.rho → entry H i k < entry H i (suc k)
  columns-ascend = clear-ascending H o.sized.whole o.clear

-- an accepted matrix has all of this
pub accepted-ordered : (H : Matrix) → Accepted H → Ordered H
accepted-ordered H a = record { sized = record { sizes = a.sizes; whole = a.rows.whole }; clear = rows-clear H a.sizes a.rows }
