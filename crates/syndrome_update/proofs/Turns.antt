-- Laws of parities that are turned over: none, one row more, one column more; and of the places at which two words differ.
--   turned-bits       == turned parities are 0 or 1
--   checks-none       == no row is turned over yet
--   checks-step       == one row more is turned over
--   column-turned     == the rows of a column, as they are turned over
--   listed-none       == no column is looked at yet
--   listed-step       == one column more is looked at
--   difference-is     == the difference of two bits as it is computed
--   difference-bit    == it is a bit
--   bit_below         == a bit of a word
--   bits-fewer        == bits at the first places are bits at fewer of them
--   total-below       == a list's first numbers, summed as a list and by their places
--   odd-most          == no more are odd than there are
-- Assumes nothing.
use mathlib.Core.Path.{◌≡◌, refl, sym, ◌∙◌}
use mathlib.Core.List.{List}
use mathlib.Core.Logic.{inl, inr}
use Prim.Native.Nat.{ℕ, zero, suc, ◌+◌, ◌-◌, ◌≤◌, ◌<◌}
use native.Mathlib.Numerals.{add-one}
use native.Mathlib.Omega.{arith}
use lib.Bits.{bit_xor}
use lib.ListN.{set, take, length, length-set}
use Rattle.std.proofs.Common.{sum_by}
use Rattle.std.proofs.lemmas.List.Sums.{sum_by_more}
use Rattle.counting.specs.Paper.Sum.{sum_below}
use Rattle.counting.specs.Places.{at, among}
use Rattle.counting.proofs.Sums.{sum_bound, differ-bits, differ-le, same_refl, same-ne}
use Rattle.counting.proofs.Writes.{stored}
use Rattle.syndrome.proofs.Parity.{xor-bits}
use Rattle.syndrome_update.specs.Parities.{Bits, BitsBelow, ParitiesTurned, differing, column_rows, listed_rows}

-- turned parities are 0 or 1
pub turned-bits : (f : ℕ → ℕ) (p p' : List ℕ) → ParitiesTurned f p p' → Bits p'
turned-bits f p p' t = record { long = t.long; bit = λ i. omega (arith, t.each i) }

module _ (p : List ℕ) (b : Bits p) where
  -- ---- the rows of one column

  -- no row is turned over yet
  pub checks-none : (x : List ℕ) (from : ℕ) → ParitiesTurned (among x from 0) p p
  unfolding among sum_below
  checks-none x from = record { long = b.long; each = λ i. omega (arith, b.bit i) }

  -- one row more
  pub checks-step : (x : List ℕ) (from k : ℕ) (p' : List ℕ) → at x (from + k) < 1023 → ParitiesTurned (among x from k) p p'
      → ParitiesTurned (among x from (k + 1)) p (set p' (at x (from + k)) (bit_xor (at p' (at x (from + k))) 1))
  unfolding among sum_below
  checks-step x from k p' h t =
      rw (add-one k)
      record {
        long = length-set p' r (bit_xor (at p' r) 1) ∙ t.long;
        each = λ i. elim (stored p' r (bit_xor (at p' r) 1) i (omega (arith, h, t.long))) [
          | inl e ↦ rw e.1 (omega (arith, rw e.1 at e.0, xor-bits (at p' r) 1 (omega (arith, t.each r)) (omega arith), t.each r, same_refl r))
          | inr e ↦ omega (arith, e.0, t.each i, same-ne r i (λ q. e.1 (sym q)))
        ];
      }
    where
      r : ℕ
      r = at x (from + k)

  -- ---- the listed columns

  -- the rows of a column, as they are turned over
  pub column-turned : (x : List ℕ) (n j : ℕ) (p' : List ℕ) → ParitiesTurned (among x (n + 1 + at x j) (at x (j + 1) - at x j)) p p'
      → ParitiesTurned (column_rows x n j) p p'
  unfolding column_rows
  column-turned x n j p' t = record { long = t.long; each = t.each }

  -- no column is looked at yet
  pub listed-none : (x : List ℕ) (n : ℕ) (l : List ℕ) → ParitiesTurned (listed_rows x n l 0) p p
  unfolding listed_rows sum_below
  listed-none x n l = record { long = b.long; each = λ i. omega (arith, b.bit i) }

  -- one column more
  pub listed-step : (x : List ℕ) (n : ℕ) (l : List ℕ) (q : ℕ) (p' p'' : List ℕ) → ParitiesTurned (listed_rows x n l q) p p'
      → ParitiesTurned (column_rows x n (at l q)) p' p'' → ParitiesTurned (listed_rows x n l (q + 1)) p p''
  unfolding listed_rows sum_below
  listed-step x n l q p' p'' t u =
      rw (add-one q) record { long = u.long; each = λ i. omega (arith, t.each i, u.each i) }

-- ---- the places at which two words differ

-- the difference as it is computed
pub difference-is : (a c : ℕ → ℕ) (j : ℕ) → a j < 2 → c j < 2 → bit_xor (a j) (c j) ≡ differing a c j
unfolding differing
difference-is a c j h l = xor-bits (a j) (c j) h l ∙ omega (arith, differ-bits (a j) (c j) h l, differ-le (a j) (c j))

-- which is a bit
pub difference-bit : (a c : ℕ → ℕ) (j : ℕ) → differing a c j < 2
unfolding differing
difference-bit a c j = omega (arith, differ-le (a j) (c j))

-- a bit of a word
pub bit_below : (n : ℕ) (z : List ℕ) (j : ℕ) → BitsBelow n z → j < n → at z j < 2
unfolding BitsBelow
bit_below n z j w l = w j l

-- bits at the first places are bits at fewer of them
pub bits-fewer : (n k : ℕ) (z : List ℕ) → BitsBelow n z → k ≤ n → BitsBelow k z
unfolding BitsBelow
bits-fewer n k z w h j l = w j (omega arith)

-- ---- parities counted

-- a list's first m numbers, summed as a list and by their places
pub total-below : (p : List ℕ) (m : ℕ) → m ≤ length p → sum_by (λ (x : ℕ). x) (take m p) ≡ sum_below m (at p)
unfolding sum_below
total-below p zero h = refl
total-below p (suc m) h =
    let more : sum_by (λ (x : ℕ). x) (take (suc m) p) ≡ sum_by (λ (x : ℕ). x) (take m p) + at p m =
    rw (add-one m) at (sum_by_more (λ (x : ℕ). x) p m 0 (omega arith)) in
    omega (arith, more, total-below p m (omega arith))

-- no more are odd than there are
pub odd-most : (p : List ℕ) → Bits p → (i : ℕ) → sum_below i (at p) ≤ i
odd-most p b i = omega (arith, sum_bound i 1 {f = at p} (λ k h. omega (arith, b.bit k)))
