-- Laws of sets of checks in words.
--   bit-bit         == a bit of a set is 0 or 1
--   row-there       == a row of the matrix, as its set has it
--   row-past        == no set has a row past those of the matrix
--   zero_bit, zero-within   == an empty set has no bit
--   zero-parities   == it is that of the failing checks of a word of zeros
--   zero-votes      == and has no votes
--   parities-failing, parities-votes   == what a set of failing checks counts are the failing checks and the votes
-- Assumes nothing.
use mathlib.Core.Path.{◌≡◌, refl, sym, ap, ◌∙◌}
use mathlib.Core.List.{List}
use Prim.Native.Nat.{ℕ, ◌+◌, ◌*◌, ◌/◌, ◌%◌, ◌^◌, ◌<◌, ◌≤◌}
use native.Mathlib.Omega.{arith}
use native.Mathlib.Nat.{mul-zero, div-eq_of_lt}
use lib.Pow.{pow_pos}
use lib.ListN.{replicate, length-replicate}
use Rattle.counting.specs.Places.{at}
use Rattle.counting.proofs.Sums.{sum-cong, sum-zero}
use Rattle.counting.proofs.Writes.{zeros}
use Rattle.matrix.specs.Paper.Code.{Matrix, entry, has, fails, failing}
use Rattle.syndrome_words.specs.Sets.{bit_in, has_row, Within, SetParities, set_failing, set_votes, SetVotes}
use borrow.Author.Tests.{lt-ltb, le-ltb}
use Rattle.majority_logic.specs.Paper.Votes.{votes}

-- a bit of a set
pub bit-bit : (x : List ℕ) (from i : ℕ) → bit_in x from i < 2
unfolding bit_in
bit-bit x from i = omega arith

-- ---- the rows of columns

pub row-there : (H : Matrix) (i j : ℕ) → i < H.m → has_row H i j ≡ has H i j
unfolding has_row
row-there H i j h = rw (lt-ltb i H.m h) refl

pub row-past : (H : Matrix) (i j : ℕ) → H.m ≤ i → has_row H i j ≡ 0
unfolding has_row
row-past H i j h = rw (le-ltb i H.m h) refl

-- ---- the empty set

pub zero_bit : (i : ℕ) → bit_in (replicate 16 0) 0 i ≡ 0
unfolding bit_in
zero_bit i = ap (λ (y : ℕ). y / 2 ^ (i % 64) % 2) (zeros 16 (0 + i / 64)) ∙ none (i % 64)
  where
    none : (k : ℕ) → 0 / 2 ^ k % 2 ≡ 0
    none k = ap (λ (y : ℕ). y % 2) (div-eq_of_lt (pow_pos k))

pub zero-within : (m : ℕ) → Within m (replicate 16 0)
zero-within m i past h = zero_bit i

-- the failing checks of a word of zeros
pub zero-parities : (H : Matrix) → SetParities H (at (replicate 1023 0)) (replicate 16 0)
unfolding fails
zero-parities H =
    record {
      long = length-replicate {A = ℕ} 16 0;
      each = λ i h. zero_bit i ∙ sym (ap (λ (y : ℕ). y % 2) (sum-zero H.rho (λ k l. zeros 1023 (entry H i k))));
      past = zero-within H.m;
    }

-- which have no votes
pub zero-votes : (H : Matrix) → SetVotes H (replicate 16 0) (replicate 1023 0)
unfolding set_votes
zero-votes H =
    record {
      long = length-replicate {A = ℕ} 1023 0;
      each = λ j. zeros 1023 j ∙ sym (sum-zero H.m (λ i h. ap (λ (y : ℕ). has H i j * y) (zero_bit i) ∙ mul-zero (has H i j)));
    }

-- ---- what a set of failing checks counts

pub parities-failing : (H : Matrix) (z : ℕ → ℕ) (p : List ℕ) → SetParities H z p → set_failing H p ≡ failing H z
unfolding set_failing failing
parities-failing H z p s = sum-cong H.m s.each

pub parities-votes : (H : Matrix) (z : ℕ → ℕ) (p : List ℕ) → SetParities H z p → (j : ℕ) → set_votes H p j ≡ votes H z j
unfolding set_votes votes
parities-votes H z p s j = sum-cong H.m (λ i h. ap (λ (y : ℕ). has H i j * y) (s.each i h))
