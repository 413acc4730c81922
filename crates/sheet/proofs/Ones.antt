-- Blocks of size 1.
--   one-grid     == a matrix in order is a grid of them
--   one-always   == so that every accepted matrix has a sheet with Z = 1
-- Assumes nothing.
use Prim.Native.Nat.{ℕ, ◌+◌, ◌*◌, ◌/◌, ◌%◌, ◌<◌}
use mathlib.Core.Path.{◌≡◌, ap}
use native.Mathlib.Omega.{arith}
use Rattle.matrix.specs.Paper.Code.{Matrix, entry}
use Rattle.matrix.specs.Paper.PlainCheck.{Accepted}
use Rattle.matrix.proofs.PlainCheck.{accepted-is}
use Rattle.sheet.specs.Paper.Claims.{OneAlways}
use Rattle.sheet.specs.Parts.{first_entry, turned, Grid}
use Rattle.sheet.proofs.Described.{grid-describes}

-- a matrix in order is a grid of blocks of size 1: each row is the first of its block row
one-grid : (H : Matrix) → Accepted H → Grid H 1
unfolding first_entry turned
one-grid H a =
    record {
      some = omega arith;
      wide = omega arith;
      high = omega arith;
      apart = λ r k l h. omega (arith, a.rows.ascending (r * 1) k (omega arith) h);
      follows = λ r i k l h m. follow r i k h;
    }
  where
    follow : (r i k : ℕ) → i < 1 → entry H (r * 1 + i) k ≡ entry H (r * 1) k / 1 * 1 + (i + entry H (r * 1) k % 1) % 1
    follow r i k h =
        let z : r * 1 + i ≡ r * 1 = omega arith in
        omega (arith, ap (λ (x : ℕ). entry H x k) z)

-- every accepted matrix has a sheet with Z = 1
pub one-always : OneAlways
one-always H e = grid-describes H 1 (accepted-is H e) (one-grid H (accepted-is H e))
