-- Laws of the count of changed bits: all that other proofs know of it.
--   zero-undecided, other-decided   == a level is decided exactly where it is other than 0
--   changed-cong      == the test and the bits are read below n alone
--   changed-all       == where every place counts it is the distance of the two words
--   changed-decided   == where no level is 0 every place counts
--   changed-least     == it is at most the distance
--   changed-sym       == it is the same whichever word is named first
--   changed-self      == a word has no changes from itself
--   changed-le        == there are no more than n
-- Assumes nothing.
use mathlib.Core.Path.{◌≡◌, refl, ap, ap₂}
use mathlib.Core.Bool.{Bool, true, false, not, cond}
use Prim.Native.Nat.{ℕ, suc, ◌≤◌, ◌<◌, zero-le}
use native.Mathlib.Nat.{le_refl}
use native.Mathlib.Omega.{arith}
use borrow.Author.Tests.{ne_eqb}
use lib.IntN.{ℤ, pos, negsuc}
use Rattle.counting.specs.Paper.Sum.{unequal}
use Rattle.counting.proofs.Sums.{sum-cong, sum-le, sum-zero, differ-eq, differ-sym}
use Rattle.packed_word.specs.Paper.Packed.{distance}
use Rattle.packed_word.proofs.Distances.{distance-le}
use Rattle.iterative_changed.specs.Paper.Changed.{decided, decided_in, changed}

-- ---- the test

-- the level 0 is not decided
pub zero-undecided : decided (pos 0) ≡ false
unfolding decided
zero-undecided = refl

-- every other level is
pub other-decided : (r : ℤ) → (r ≡ pos 0 → ⊥) → decided r ≡ true
unfolding decided
other-decided (pos k) ne = ap not (ne_eqb k 0 (λ e. ne (ap pos e)))
other-decided (negsuc k) ne = ap not (ne_eqb (suc k) 0 (λ e. omega arith))

-- ---- the count

-- the test and the bits are read below n alone
pub changed-cong : (n : ℕ) {counts counts' : ℕ → Bool} {z z' r r' : ℕ → ℕ} → ((j : ℕ) → j < n → counts j ≡ counts' j)
    → ((j : ℕ) → j < n → z j ≡ z' j) → ((j : ℕ) → j < n → r j ≡ r' j) → changed n counts z r ≡ changed n counts' z' r'
unfolding changed
changed-cong n c p q = sum-cong n (λ j l. ap₂ (λ (t : Bool) (x : ℕ). cond t x 0) (c j l) (ap₂ unequal (p j l) (q j l)))

-- where every place counts it is the distance of the two words
pub changed-all : (n : ℕ) (counts : ℕ → Bool) (z r : ℕ → ℕ) → ((j : ℕ) → j < n → counts j ≡ true) → changed n counts z r ≡ distance n z r
unfolding changed distance
changed-all n counts z r all = sum-cong n (λ j l. ap (λ (t : Bool). cond t (unequal (z j) (r j)) 0) (all j l))

-- where no level is 0 every place counts
pub changed-decided : (n : ℕ) (R : ℕ → ℤ) (z r : ℕ → ℕ) → ((j : ℕ) → j < n → R j ≡ pos 0 → ⊥) → changed n (decided_in R) z r ≡ distance n z r
changed-decided n R z r some = changed-all n (decided_in R) z r (λ j l. other-decided (R j) (some j l))

-- it is at most the distance
pub changed-least : (n : ℕ) (counts : ℕ → Bool) (z r : ℕ → ℕ) → changed n counts z r ≤ distance n z r
unfolding changed distance
changed-least n counts z r = sum-le n (λ j l. part (counts j) (unequal (z j) (r j)))
  where
    part : (t : Bool) (x : ℕ) → cond t x 0 ≤ x
    part true x = le_refl x
    part false x = zero-le

-- it is the same whichever word is named first
pub changed-sym : (n : ℕ) (counts : ℕ → Bool) (z r : ℕ → ℕ) → changed n counts z r ≡ changed n counts r z
unfolding changed
changed-sym n counts z r = sum-cong n (λ j l. ap (λ (x : ℕ). cond (counts j) x 0) (differ-sym (z j) (r j)))

-- a word has no changes from itself
pub changed-self : (n : ℕ) (counts : ℕ → Bool) (z : ℕ → ℕ) → changed n counts z z ≡ 0
unfolding changed
changed-self n counts z = sum-zero n (λ j l. none (counts j) _ (differ-eq (z j) (z j) refl))
  where
    none : (t : Bool) (x : ℕ) → x ≡ 0 → cond t x 0 ≡ 0
    none true x e = e
    none false x e = refl

-- no more bits are changed than there are
pub changed-le : (n : ℕ) (counts : ℕ → Bool) (z r : ℕ → ℕ) → changed n counts z r ≤ n
changed-le n counts z r = omega (arith, changed-least n counts z r, distance-le n z r)
