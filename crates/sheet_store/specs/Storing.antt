-- A sheet while it is written.
--   head_bytes J K Z     == the first six bytes
--   shift_bytes H Z r k  == the k-th shift of block row r, in bytes
--   row_shifts H Z r     == all shifts of the block row
--   place_of H Z r k     == the place of the map of the block in which the k-th one of the first row of block row r stands
--   marks H Z r k p      == how many of the first rows' ones before that one stand in the block at place p
--   Marked H Z r k w     == the bits of w are these
-- Assumes nothing.
use Rattle.std.specs.Prelude.{ℕ, ◌+◌, ◌*◌, ◌/◌, ◌%◌, ◌≡◌, List, ◌++◌, length}
use Rattle.counting.specs.Paper.Sum.{sum_below, same}
use Rattle.counting.specs.Paper.Joined.{joined}
use Rattle.packed_word.specs.Paper.Packed.{bit_at, bytes_for}
use Rattle.byte_numbers.specs.Paper.Numbers.{bytes16}
use Rattle.matrix.specs.Paper.Code.{Matrix, entry}

-- J, K and Z
abbrev pub head_bytes : ℕ → ℕ → ℕ → List ℕ
head_bytes J K Z = bytes16 J ++ (bytes16 K ++ bytes16 Z)

-- one shift
abbrev pub shift_bytes : Matrix → ℕ → ℕ → ℕ → List ℕ
shift_bytes H Z r k = bytes16 (entry H (r * Z) k % Z)

-- the shifts of a block row
unfoldable pub row_shifts : Matrix → ℕ → ℕ → List ℕ
row_shifts H Z r = joined H.rho (shift_bytes H Z r)

-- the block of a one, as a place of the map
unfoldable pub place_of : Matrix → ℕ → ℕ → ℕ → ℕ
place_of H Z r k = r * (H.n / Z) + entry H (r * Z) k / Z

-- the ones of the block rows before, and the first k of block row r, counted in the block at place p
unfoldable pub marks : Matrix → ℕ → ℕ → ℕ → ℕ → ℕ
marks H Z r k p = sum_below r (λ q. sum_below H.rho (λ i. same (place_of H Z q i) p)) + sum_below k (λ i. same (place_of H Z r i) p)

-- the map of these ones
pub record Marked (H : Matrix) (Z r k : ℕ) (w : List ℕ) : Type 0 where
  pub long : length w ≡ bytes_for (H.m / Z * (H.n / Z))
  pub bits : (p : ℕ) → bit_at w p ≡ marks H Z r k p
