-- Laws of the number of places at which two words differ.
--   distance-cong       == words that agree below n have the same distance
--   distance-sym        == the distance is the same whichever word is named first
--   distance_self       == a word has distance 0 from itself
--   distance-triangle   == the distance of c and c' is at most that by way of z and z'
--   distance-agree      == words of distance 0 agree below n
--   distance-apart      == words of another distance differ at a place below n
--   distance-le         == the distance is at most n
--   distance-spare      == places from n on that agree add nothing
--   words-equal         == words without a difference and with clear spare places are the same bytes
-- Assumes nothing.
use mathlib.Core.Path.{◌≡◌, refl, sym, ap₂, ◌∙◌}
use mathlib.Core.Bool.{false}
use mathlib.Core.List.{List}
use Prim.Native.Nat.{ℕ, ◌+◌, ◌≤◌, ◌<◌}
use native.Mathlib.Nat.{mul-one}
use native.Mathlib.Omega.{arith}
use lib.ListN.{length}
use Rattle.counting.specs.Paper.Sum.{sum_below, unequal}
use Rattle.counting.proofs.Sums.{sum-cong, sum-le, sum-zero, sum_bound, sum-add, sum-append, sum-term, sum-pos}
use Rattle.counting.proofs.Sums.{differ-eq, differ-le, differ-zero, differ-sym, differ-triangle}
use Rattle.packed_word.specs.Paper.Packed.{bit_at, bytes_for, spare_set, Bytes, distance}
use Rattle.packed_word.proofs.Packed.{pack-cong, pack-bit_at}

-- words that agree below n have the same distance
pub distance-cong : (n : ℕ) {z z' c c' : ℕ → ℕ} → ((j : ℕ) → j < n → z j ≡ z' j) → ((j : ℕ) → j < n → c j ≡ c' j) → distance n z c ≡ distance n z' c'
unfolding distance
distance-cong n p q = sum-cong n (λ j l. ap₂ unequal (p j l) (q j l))

-- the distance is the same whichever word is named first
pub distance-sym : (n : ℕ) (z c : ℕ → ℕ) → distance n z c ≡ distance n c z
unfolding distance
distance-sym n z c = sum-cong n (λ j l. differ-sym (z j) (c j))

-- a word has distance 0 from itself
pub distance_self : (n : ℕ) (z : ℕ → ℕ) → distance n z z ≡ 0
unfolding distance
distance_self n z = sum-zero n (λ j l. differ-eq (z j) (z j) refl)

-- the distance of c and c' is at most that by way of z and z'
pub distance-triangle : (n : ℕ) (c c' z z' : ℕ → ℕ) → distance n c c' ≤ distance n z c + distance n z z' + distance n z' c'
unfolding distance
distance-triangle n c c' z z' =
    omega (
      arith,
      sum-le n {f = λ j. unequal (c j) (c' j)} {g = λ j. unequal (z j) (c j) + unequal (z j) (z' j) + unequal (z' j) (c' j)}
          (λ j l. differ-triangle (c j) (c' j) (z j) (z' j)),
      sum-add n (λ j. unequal (z j) (c j) + unequal (z j) (z' j)) (λ j. unequal (z' j) (c' j)),
      sum-add n (λ j. unequal (z j) (c j)) (λ j. unequal (z j) (z' j)),
    )

-- words of distance 0 agree below n
pub distance-agree : (n : ℕ) (z c : ℕ → ℕ) → distance n z c ≡ 0 → (j : ℕ) → j < n → z j ≡ c j
unfolding distance
distance-agree n z c h j l =
    differ-zero (z j) (c j) (omega (arith, sum-term n (λ j. unequal (z j) (c j)) j l))

-- words of another distance differ at a place below n
pub distance-apart : (n : ℕ) (z c : ℕ → ℕ) → 0 < distance n z c → (j : ℕ) × (j < n) × (z j ≡ c j → ⊥)
unfolding distance
distance-apart n z c h =
    let p = sum-pos n (λ j. unequal (z j) (c j)) h in
    (p.0, p.1, λ e. omega (arith, p.2, differ-eq (z p.0) (c p.0) e))

-- the distance is at most n
pub distance-le : (n : ℕ) (z c : ℕ → ℕ) → distance n z c ≤ n
unfolding distance
distance-le n z c = omega (arith, sum_bound n 1 {f = λ j. unequal (z j) (c j)} (λ j l. differ-le (z j) (c j)), mul-one n)

-- places from n on that agree add nothing
pub distance-spare : (n k : ℕ) (z c : ℕ → ℕ) → ((j : ℕ) → n ≤ j → j < n + k → z j ≡ c j) → distance (n + k) z c ≡ distance n z c
unfolding distance
distance-spare n k z c h =
    let rest : sum_below k (λ i. unequal (z (n + i)) (c (n + i))) ≡ 0 =
    sum-zero k (λ i l. differ-eq (z (n + i)) (c (n + i)) (h (n + i) (omega arith) (omega arith))) in
    omega (arith, sum-append n k (λ j. unequal (z j) (c j)))

-- words without a difference and with clear spare places are the same bytes
pub words-equal : (n : ℕ) (w w' : List ℕ) → Bytes w → Bytes w' → length w ≡ bytes_for n → length w' ≡ bytes_for n
    → spare_set n w ≡ false → spare_set n w' ≡ false → distance n (bit_at w) (bit_at w') ≡ 0 → w ≡ w'
words-equal n w w' b b' l l' s s' d =
    sym (pack-bit_at n w b l s) ∙ pack-cong n (bit_at w) (bit_at w') (distance-agree n (bit_at w) (bit_at w') d) ∙ pack-bit_at n w' b' l' s'
