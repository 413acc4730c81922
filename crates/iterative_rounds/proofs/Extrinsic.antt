-- Laws of the extrinsic sum E: it is the votes against the weight, it lies from -weight to weight, and it reads the bits below n alone.
--   extrinsic-zero    == of a bit 0, E is twice the votes less the weight
--   extrinsic-one     == of a bit 1, E is the weight less twice the votes
--   extrinsic-bound   == the magnitude of E is at most the column's weight
--   extrinsic-cong    == words that agree below n have the same E
-- Assumes nothing.
use mathlib.Core.Path.{◌≡◌, refl, ap, ◌∙◌}
use Prim.Native.Nat.{ℕ, zero, suc, ◌+◌, ◌*◌, ◌%◌, ◌≤◌, ◌<◌}
use native.Mathlib.Nat.{zero-mul}
use native.Mathlib.Decide.{ℕ_discrete}
use native.Mathlib.Omega.{arith}
use lib.IntN.{pos, nat_abs, sub_ℕ, ◌*ℤ◌, zero-*ℤ}
use Rattle.counting.specs.Paper.Sum.{sum_below, same, unequal}
use Rattle.counting.proofs.Sums.{sum-cong, sum-add, sum-mul, sum-mul-right, same_refl, same-ne, differ-eq, differ-ne}
use Rattle.counting.proofs.Integers.{sumℤ-cong, sumℤ-difference, sumℤ-bound, abs_neg}
use Rattle.matrix.specs.Paper.Code.{Matrix, entry, has, weight, fails}
use Rattle.matrix.specs.Paper.PlainCheck.{Rows}
use Rattle.matrix.proofs.Rows.{has-le}
use Rattle.majority_logic.specs.Paper.Votes.{votes}
use Rattle.iterative_rounds.specs.Paper.Rounds.{others, sign, extrinsic}

-- ---- a check's ones, without and with bit j

split_at : (e j : ℕ) (z : ℕ → ℕ) → z e ≡ unequal e j * z e + same e j * z j
split_at e j z =
    elim (ℕ_discrete e j) [
      | yes q ↦ rw (differ-eq e j q, q, same_refl j) (omega arith)
      | no ne ↦ rw (differ-ne e j ne, same-ne e j ne) (omega arith)
    ]

all_ones : (H : Matrix) (z : ℕ → ℕ) (i j : ℕ) → sum_below H.rho (λ k. z (entry H i k)) ≡ others H z i j + has H i j * z j
unfolding others has
all_ones H z i j =
    sum-cong H.rho (λ k l. split_at (entry H i k) j z)
    ∙ sum-add H.rho (λ k. unequal (entry H i k) j * z (entry H i k)) (λ k. same (entry H i k) j * z j)
    ∙ ap (λ (x : ℕ). sum_below H.rho (λ k. unequal (entry H i k) j * z (entry H i k)) + x) (sum-mul-right H.rho (z j) (λ k. same (entry H i k) j))

fails_by : (H : Matrix) (z : ℕ → ℕ) (i j : ℕ) → fails H z i ≡ (others H z i j + has H i j * z j) % 2
unfolding fails
fails_by H z i j = ap (λ (x : ℕ). x % 2) (all_ones H z i j)

-- ---- one check's part of E: f is whether it fails, o the ones of its other bits, h whether it has the bit

part-zero : (h o f : ℕ) → h ≤ 1 → f ≡ (o + h * 0) % 2 → pos h *ℤ sign (o % 2) ≡ sub_ℕ (2 * (h * f)) h
part-zero zero o f l e = rw (zero-mul f) (zero-*ℤ (sign (o % 2)))
part-zero (suc zero) o f l e = by_bit f (o % 2) (omega arith) (omega arith)
  where
    by_bit : (f p : ℕ) → f ≡ p → p < 2 → pos 1 *ℤ sign p ≡ sub_ℕ (2 * (1 * f)) 1
    by_bit f zero q s = rw q
    by_bit f (suc zero) q s = rw q
    by_bit f (suc (suc p)) q s = absurd (omega arith)
part-zero (suc (suc h)) o f l e = absurd (omega arith)

part-one : (h o f : ℕ) → h ≤ 1 → f ≡ (o + h * 1) % 2 → pos h *ℤ sign (o % 2) ≡ sub_ℕ h (2 * (h * f))
part-one zero o f l e = rw (zero-mul f) (zero-*ℤ (sign (o % 2)))
part-one (suc zero) o f l e = by_bit f (o % 2) (omega arith) (omega arith)
  where
    by_bit : (f p : ℕ) → f + p ≡ 1 → p < 2 → pos 1 *ℤ sign p ≡ sub_ℕ 1 (2 * (1 * f))
    by_bit (suc zero) zero q s = refl
    by_bit zero (suc zero) q s = refl
    by_bit zero zero q s = absurd (omega arith)
    by_bit (suc f) (suc p) q s = absurd (omega arith)
    by_bit (suc (suc f)) zero q s = absurd (omega arith)
    by_bit zero (suc (suc p)) q s = absurd (omega arith)
part-one (suc (suc h)) o f l e = absurd (omega arith)

-- ---- E by the votes

module _ (H : Matrix) (r : Rows H) (z : ℕ → ℕ) (j : ℕ) where
  twice : sum_below H.m (λ i. 2 * (has H i j * fails H z i)) ≡ 2 * votes H z j
  unfolding votes
  twice = sum-mul H.m 2 (λ i. has H i j * fails H z i)

  -- a bit 0: a failing check of it says 1, and the others say 0
  pub extrinsic-zero : z j ≡ 0 → extrinsic H z j ≡ sub_ℕ (2 * votes H z j) (weight H j)
  unfolding extrinsic weight
  extrinsic-zero e =
      sumℤ-difference H.m (λ i. 2 * (has H i j * fails H z i)) (λ i. has H i j)
      (λ i l. part-zero (has H i j) (others H z i j) (fails H z i) (has-le H r i j l)
      (fails_by H z i j ∙ ap (λ (b : ℕ). (others H z i j + has H i j * b) % 2) e))
      ∙ ap (λ (x : ℕ). sub_ℕ x (sum_below H.m (λ i. has H i j))) twice

  -- a bit 1: a failing check of it says 0, and the others say 1
  pub extrinsic-one : z j ≡ 1 → extrinsic H z j ≡ sub_ℕ (weight H j) (2 * votes H z j)
  unfolding extrinsic weight
  extrinsic-one e =
      sumℤ-difference H.m (λ i. has H i j) (λ i. 2 * (has H i j * fails H z i))
      (λ i l. part-one (has H i j) (others H z i j) (fails H z i) (has-le H r i j l)
      (fails_by H z i j ∙ ap (λ (b : ℕ). (others H z i j + has H i j * b) % 2) e))
      ∙ ap (sub_ℕ (sum_below H.m (λ i. has H i j))) twice

-- ---- "So E lies from −γ to γ", where γ is the number of the bit's own checks

abs-part : (h p : ℕ) → nat_abs (pos h *ℤ sign p) ≤ h
abs-part h zero = omega (arith, abs_neg (h * 1))
abs-part h (suc p) = omega arith

-- the magnitude of E is at most the column's weight
pub extrinsic-bound : (H : Matrix) (z : ℕ → ℕ) (j : ℕ) → nat_abs (extrinsic H z j) ≤ weight H j
unfolding extrinsic weight
extrinsic-bound H z j =
    sumℤ-bound H.m (λ i. has H i j) (λ i. pos (has H i j) *ℤ sign (others H z i j % 2)) (λ i l. abs-part (has H i j) (others H z i j % 2))

-- ---- what E reads

-- words that agree below n have the same E
pub extrinsic-cong : (H : Matrix) → Rows H → (z c : ℕ → ℕ) → ((j : ℕ) → j < H.n → z j ≡ c j) → (j : ℕ) → extrinsic H z j ≡ extrinsic H c j
unfolding extrinsic others
extrinsic-cong H r z c e j =
    sumℤ-cong H.m
    (λ i l. ap (λ (x : ℕ). pos (has H i j) *ℤ sign (x % 2))
    (sum-cong H.rho (λ k h. ap (λ (x : ℕ). unequal (entry H i k) j * x) (e (entry H i k) (r.below i k l h)))))
