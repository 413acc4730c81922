-- Laws of row parities: a row of an accepted matrix is a part of the list, and the parity of the bits there is its check.
--   xor-bits      == of bits, `^` is the sum's parity
--   part-at       == a number of a part, read from the part as a slice
--   parity-step   == one bit more in a parity
--   row-part      == a row is a part of the list
--   checks        == a word has bits at every row
--   row-fails     == the parity of the bits at a row is its check
--   row_is        == the parity as it is computed is that of the row
--   row-bit       == the parity of a row is a bit
--   parity-at     == the parities of all rows, written over an array, are the checks of the matrix
--   parity-bit    == and are bits
--   count-step    == one check more is counted
--   count_most    == the count is at most the number of rows counted
-- Assumes nothing.
use mathlib.Core.Path.{◌≡◌, refl, ap, ◌∙◌}
use mathlib.Core.List.{List}
use Prim.Native.Nat.{ℕ, zero, suc, ◌+◌, ◌*◌, ◌%◌, ◌≤◌, ◌<◌}
use native.Mathlib.Nat.{mul-le-mul_right, le_of_suc-le-suc}
use native.Mathlib.Numerals.{add-one}
use native.Mathlib.Omega.{arith}
use lib.Bits.{bit_xor}
use lib.ListN.{get_or, take, drop}
use lib.Seq.{get_or-take, get_or-drop}
use Rattle.counting.specs.Paper.Sum.{sum_below}
use Rattle.counting.specs.Paper.Lists.{listed, over}
use Rattle.counting.specs.Places.{at}
use Rattle.counting.proofs.Writes.{over-at}
use Rattle.counting.proofs.Sums.{sum_bound}
use Rattle.matrix.specs.Paper.Code.{Matrix, entry, Word, fails}
use Rattle.matrix.specs.Paper.PlainCheck.{Accepted}
use Rattle.matrix.proofs.Rows.{few-entries}
use Rattle.syndrome.specs.Places.{Part, ones_at, Checks, row_fails}

-- of bits, `^` is the sum's parity
pub xor-bits : (x b : ℕ) → x < 2 → b < 2 → bit_xor x b ≡ (x + b) % 2
xor-bits zero zero h k = refl
xor-bits zero (suc zero) h k = refl
xor-bits zero (suc (suc b)) h k = absurd (omega arith)
xor-bits (suc zero) zero h k = refl
xor-bits (suc zero) (suc zero) h k = refl
xor-bits (suc zero) (suc (suc b)) h k = absurd (omega arith)
xor-bits (suc (suc x)) b h k = absurd (omega arith)

-- a number of a part, read from the part as a slice
pub part-at : (l : List ℕ) (from n k : ℕ) → k < n → get_or (take n (drop from l)) k 0 ≡ at l (from + k)
part-at l from n k h = get_or-take n (drop from l) k 0 h ∙ get_or-drop from l k 0

-- one bit more in a parity
pub parity-step : (l : List ℕ) (from k : ℕ) (z : ℕ → ℕ) (x : ℕ) → z (at l (from + k)) < 2 → x ≡ ones_at l from k z % 2
    → bit_xor x (z (at l (from + k))) ≡ ones_at l from (k + 1) z % 2
unfolding ones_at sum_below
parity-step l from k z x h e = rw (add-one k) (xor-bits x (z (at l (from + k))) (omega arith) h ∙ omega arith)

module _ (H : Matrix) (a : Accepted H) where
  -- row i as a part of the list
  pub row-part : (i : ℕ) → i < H.m → Part H.list (i * H.rho) H.rho
  unfolding entry
  row-part i h =
      let e : i * H.rho + H.rho ≤ H.m * H.rho = omega (arith, mul-le-mul_right H.rho h) in
      record {
        room = omega (arith, a.rows.whole);
        short = omega (arith, few-entries H a.sizes);
        below = λ k l. omega (arith, a.rows.below i k h l, a.sizes.n_most);
      }

  -- a word has bits at every row
  pub checks : (z : ℕ → ℕ) → Word H z → Checks H.list H.m H.rho z
  unfolding Word entry
  checks z w =
      record {
        few = a.sizes.m_most;
        part = row-part;
        bits = λ i h k l. w (at H.list (i * H.rho + k)) (a.rows.below i k h l);
      }

-- the parity of the bits at a row is its check
pub row-fails : (H : Matrix) (z : ℕ → ℕ) → row_fails H.list H.rho z ≡ fails H z
unfolding row_fails ones_at fails entry
row-fails H z = refl

-- the parity as it is computed
pub row_is : (l : List ℕ) (rho : ℕ) (z : ℕ → ℕ) (i x : ℕ) → x ≡ ones_at l (i * rho) rho z % 2 → x ≡ row_fails l rho z i
unfolding row_fails
row_is l rho z i x e = e

-- the parity of a row is a bit
pub row-bit : (l : List ℕ) (rho : ℕ) (z : ℕ → ℕ) (i : ℕ) → row_fails l rho z i < 2
unfolding row_fails
row-bit l rho z i = omega arith

module _ (H : Matrix) (z : ℕ → ℕ) (old new : List ℕ) (e : new ≡ over (listed H.m (row_fails H.list H.rho z)) old) where
  -- the parities of all rows are the checks of the matrix
  pub parity-at : (i : ℕ) → i < H.m → at new i ≡ fails H z i
  parity-at i h = over-at H.m (row_fails H.list H.rho z) old new e 0 i h ∙ ap (λ (f : ℕ → ℕ). f i) (row-fails H z)

  -- and are bits
  pub parity-bit : (i : ℕ) → i < H.m → at new i < 2
  parity-bit i h =
      omega (arith, over-at H.m (row_fails H.list H.rho z) old new e 0 i h, row-bit H.list H.rho z i)

-- one check more in a count, which stays within the rows
pub count-step : (l : List ℕ) (rho : ℕ) (z : ℕ → ℕ) (i f x : ℕ) → f ≡ sum_below i (row_fails l rho z) → x ≡ row_fails l rho z i
    → f + x ≡ sum_below (i + 1) (row_fails l rho z)
unfolding sum_below
count-step l rho z i f x e r = rw (add-one i) (omega arith)

-- the count is at most the number of rows counted
pub count_most : (l : List ℕ) (rho : ℕ) (z : ℕ → ℕ) (i : ℕ) → sum_below i (row_fails l rho z) ≤ i
count_most l rho z i =
    omega (arith, sum_bound i 1 {f = row_fails l rho z} (λ k h. le_of_suc-le-suc (row-bit l rho z k)))
