-- Laws of the shifts while they are written.
--   shift_none    == no shift of a block row is written yet
--   shift-next    == one shift more is
--   shift-all     == and all are the block row's
--   shifts-long   == a block row's shifts are two bytes each
--   row_room      == the shifts of the next block row have room
--   row_next      == one block row more is written
-- Assumes nothing.
use mathlib.Core.Path.{◌≡◌, refl, sym, ap, ◌∙◌}
use mathlib.Core.List.{List}
use Prim.Native.Nat.{ℕ, ◌+◌, ◌*◌, ◌/◌, ◌%◌, ◌≤◌, ◌<◌}
use native.Mathlib.Nat.{mul_comm, mul_assoc, add-mul, one-mul, mul-le-mul}
use native.Mathlib.Omega.{arith}
use lib.ListN.{length}
use lib.Seq.{sets}
use Rattle.counting.specs.Paper.Joined.{joined}
use Rattle.counting.proofs.Sums.{sum-const}
use Rattle.counting.proofs.Joined.{length-joined}
use Rattle.byte_numbers.specs.Paper.Numbers.{bytes16}
use Rattle.byte_numbers.proofs.Joining.{sets-none, sets-next}
use Rattle.matrix.specs.Paper.Code.{Matrix, entry}
use Rattle.sheet_store.specs.Storing.{shift_bytes, row_shifts}

module _ (H : Matrix) (Z r p : ℕ) (old : List ℕ) where
  -- no shift of a block row is written yet
  pub shift_none : old ≡ sets old p (joined 0 (shift_bytes H Z r))
  shift_none = sets-none (shift_bytes H Z r) old p

  -- one shift more is
  pub shift-next : (k c : ℕ) (new next : List ℕ) → c ≡ entry H (r * Z) k → new ≡ sets old p (joined k (shift_bytes H Z r))
      → next ≡ sets new (p + 2 * k) (bytes16 (c % Z)) → next ≡ sets old p (joined (k + 1) (shift_bytes H Z r))
  shift-next k c new next e now then =
      sets-next (shift_bytes H Z r) old p 2 (λ i. refl) k (p + 2 * k) refl new next now
      (then ∙ ap (λ (x : ℕ). sets new (p + 2 * k) (bytes16 (x % Z))) e)

  -- and all are the block row's
  pub shift-all : (new : List ℕ) → new ≡ sets old p (joined H.rho (shift_bytes H Z r)) → new ≡ sets old p (row_shifts H Z r)
  unfolding row_shifts
  shift-all new e = e

-- a block row's shifts are two bytes each
pub shifts-long : (H : Matrix) (Z r : ℕ) → length (row_shifts H Z r) ≡ 2 * H.rho
unfolding row_shifts
shifts-long H Z r = length-joined (shift_bytes H Z r) H.rho ∙ sum-const H.rho 2 ∙ mul_comm H.rho 2

module _ (H : Matrix) (Z r from : ℕ) where
  -- the shifts of the next block row have room
  pub row_room : (room : ℕ) → r < H.m / Z → from + 2 * (H.m / Z * H.rho) ≤ room → from + 2 * (r * H.rho) + 2 * H.rho ≤ room
  row_room room l h =
      omega (
        arith,
        add-mul r 1 H.rho,
        one-mul H.rho,
        mul-le-mul {n₁ = r + 1} {m₁ = H.rho} {n₂ = H.m / Z} {m₂ = H.rho} (omega arith) (omega arith),
      )

  -- one block row more is written
  pub row_next : (old new next : List ℕ) → new ≡ sets old from (joined r (row_shifts H Z)) → next ≡ sets new (from + 2 * (r * H.rho)) (row_shifts H Z r)
      → next ≡ sets old from (joined (r + 1) (row_shifts H Z))
  row_next old new next now then =
      let e : 2 * (r * H.rho) ≡ 2 * H.rho * r = ap (λ (x : ℕ). 2 * x) (mul_comm r H.rho) ∙ sym (mul_assoc 2 H.rho r) in
      sets-next (row_shifts H Z) old from (2 * H.rho) (shifts-long H Z) r (from + 2 * (r * H.rho)) (ap (λ (x : ℕ). from + x) e) new next now then
