-- The code is linear: the checks of a sum of words, modulo 2.
--   fails-plus      == a check of the sum fails where it fails for one word only
--   fails-turned    == a bit turned over turns over the checks of its column
--   fails-differ    == a check fails for one of two words only where they differ at an odd number of its columns
--   plus-codeword   == the sum of two codewords is a codeword
-- Assumes nothing.
use mathlib.Core.Path.{◌≡◌, refl, ◌∙◌}
use Prim.Native.Nat.{ℕ, zero, suc, ◌+◌, ◌%◌, ◌<◌}
use native.Mathlib.Omega.{arith}
use Rattle.counting.specs.Paper.Sum.{sum_below, same, unequal}
use Rattle.counting.proofs.Sums.{sum-cong, sum-add, sum-zero, same-sym, differ-bits, differ-le}
use Rattle.matrix.specs.Paper.Code.{Matrix, entry, has, Word, fails, failing, Codeword}
use Rattle.matrix.specs.Paper.PlainCheck.{Rows}
use Rattle.matrix.specs.Linear.{plus}
use Rattle.matrix.proofs.Rows.{clean_at, fails-cong}

-- a sum, modulo 2, of what is left modulo 2
sum-mod : (k : ℕ) (f : ℕ → ℕ) → sum_below k (λ x. f x % 2) % 2 ≡ sum_below k f % 2
unfolding sum_below
sum-mod zero f = refl
sum-mod (suc k) f = omega (arith, sum-mod k f)

-- bits added modulo 2 give 1 where they differ
plus-differ : (z c : ℕ → ℕ) (j : ℕ) → z j < 2 → c j < 2 → unequal (z j) (c j) ≡ plus z c j
unfolding plus
plus-differ z c j h l = omega (arith, differ-bits (z j) (c j) h l, differ-le (z j) (c j))

module _ (H : Matrix) (z c : ℕ → ℕ) where
  -- a check of the sum fails where it fails for one word only
  pub fails-plus : (i : ℕ) → fails H (plus z c) i ≡ (fails H z i + fails H c i) % 2
  unfolding fails plus
  fails-plus i =
      omega (
        arith,
        sum-mod H.rho (λ k. z (entry H i k) + c (entry H i k)),
        sum-add H.rho (λ k. z (entry H i k)) (λ k. c (entry H i k)),
      )

  -- a check fails for one of two words only where they differ at an odd number of its columns
  pub fails-differ : Rows H → Word H z → Word H c → (i : ℕ) → i < H.m → fails H (λ j. unequal (z j) (c j)) i ≡ (fails H z i + fails H c i) % 2
  unfolding Word
  fails-differ r zw cw i h =
      fails-cong H r (λ j. unequal (z j) (c j)) (plus z c) (λ j l. plus-differ z c j (zw j l) (cw j l)) i h ∙ fails-plus i

  -- the sum of two codewords is a codeword
  pub plus-codeword : Codeword H z → Codeword H c → Codeword H (plus z c)
  unfolding Word failing plus
  plus-codeword p q = record { word = λ j l. omega arith; clean = sum-zero H.m (λ i l. fails-plus i ∙ both i l) }
    where
      both : (i : ℕ) → i < H.m → (fails H z i + fails H c i) % 2 ≡ 0
      both i l = omega (arith, clean_at H z p.clean i l, clean_at H c q.clean i l)

-- a bit turned over turns over the checks of its column
pub fails-turned : (H : Matrix) (z : ℕ → ℕ) (j i : ℕ) → fails H (plus z (same j)) i ≡ (fails H z i + has H i j) % 2
unfolding fails has
fails-turned H z j i = fails-plus H z (same j) i ∙ omega (arith, sum-cong H.rho each)
  where
    each : (k : ℕ) → k < H.rho → same j (entry H i k) ≡ same (entry H i k) j
    each k l = same-sym j (entry H i k)
