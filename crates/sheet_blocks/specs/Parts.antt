-- What the parts of the question say: the statements of `Grid` one block row at a time.
--   Says P b               == b says whether P holds
--   Filled n m Z           == Z is not 0, and blocks of that size fill n columns and m rows
--   Ready H Z              == an accepted matrix that they fill
--   Split H Z r a b        == a has where the blocks with the first entries of block row r start, b how far behind each entry stands
--   Apart H Z r            == no two entries of the first row of block row r stand in one block
--   Follows H Z r x        == the first x rows of block row r are its first row, turned
--   Stands H Z r           == both, of all its rows
--   Turning H Z r a b      == block row r of such a matrix, with its first row split
--   strays l rho Z r i k   == 1 where entry k of row i of block row r is not that of the first row, turned, else 0
-- Assumes nothing.
use Rattle.std.specs.Prelude.{ℕ, suc, ◌+◌, ◌*◌, ◌/◌, ◌%◌, ◌<◌, ◌≡◌, Bool, true, false, List}
use Rattle.counting.specs.Paper.Sum.{unequal}
use Rattle.counting.specs.Places.{at}
use Rattle.matrix.specs.Paper.Code.{Matrix, entry}
use Rattle.matrix.specs.Paper.PlainCheck.{Accepted}
use Rattle.sheet.specs.Parts.{first_entry, turned}

-- whether a statement holds
pub record Says (P : Type 0) (b : Bool) : Type 0 where
  pub so : b ≡ true → P
  pub not_so : b ≡ false → P → ⊥

-- blocks of size Z fill n columns and m rows
pub record Filled (n m Z : ℕ) : Type 0 where
  pub some : 0 < Z
  pub wide : n / Z * Z ≡ n
  pub high : m / Z * Z ≡ m

-- an accepted matrix that blocks of size Z fill
pub record Ready (H : Matrix) (Z : ℕ) : Type 0 where
  pub accepted : Accepted H
  pub filled : Filled H.n H.m Z

-- the first row of block row r, split into where the blocks start and how far behind the entries stand
pub record Split (H : Matrix) (Z r : ℕ) (starts shifts : List ℕ) : Type 0 where
  pub start : (k : ℕ) → k < H.rho → at starts k ≡ first_entry H Z r k / Z * Z
  pub shift : (k : ℕ) → k < H.rho → at shifts k ≡ first_entry H Z r k % Z

-- no two entries of the first row of block row r stand in one block
unfoldable pub Apart : Matrix → ℕ → ℕ → Type 0
Apart H Z r = (k : ℕ) → suc k < H.rho → first_entry H Z r k / Z < first_entry H Z r (suc k) / Z

-- the first x rows of block row r are its first row, turned
unfoldable pub Follows : Matrix → ℕ → ℕ → ℕ → Type 0
Follows H Z r x = (i k : ℕ) → i < x → k < H.rho → entry H (r * Z + i) k ≡ turned Z (first_entry H Z r k) i

-- block row r is a row of zero and shifted identity blocks
pub record Stands (H : Matrix) (Z r : ℕ) : Type 0 where
  pub apart : Apart H Z r
  pub follows : Follows H Z r Z

-- block row r of a matrix that blocks of size Z fill, with its first row split
pub record Turning (H : Matrix) (Z r : ℕ) (starts shifts : List ℕ) : Type 0 where
  pub ready : Ready H Z
  pub here : r < H.m / Z
  pub split : Split H Z r starts shifts

-- whether entry k of row i of block row r is not that of the first row, turned, as a number
unfoldable pub strays : List ℕ → ℕ → ℕ → ℕ → ℕ → ℕ → ℕ
strays l rho Z r i k = unequal (at l ((r * Z + i) * rho + k)) (turned Z (at l (r * Z * rho + k)) i)
