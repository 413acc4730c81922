-- How many failing checks a column has where the word is a codeword with some bits changed, over the column's own weight.
-- A change in another column lies in at most one check of this column, as no two checks share two columns; a change of the column
-- itself lies in all of its checks.
--   votes-kept      == a column that is not changed has at most as many failing checks as there are changes
--   votes-changed   == one that is changed has more than its weight less that number
-- Assumes nothing.
use mathlib.Core.Path.{◌≡◌, refl, sym, ap, ap₂, ◌∙◌}
use mathlib.Core.Logic.{◌⊎◌, inl, inr}
use Prim.Native.Nat.{ℕ, zero, suc, ◌+◌, ◌*◌, ◌%◌, ◌≤◌, ◌<◌}
use native.Mathlib.Nat.{mul-le-mul, mul-le-mul_left, mul-le-mul_right, mul-pos, mul_assoc}
use native.Mathlib.Decide.{ℕ_discrete}
use native.Mathlib.Omega.{arith}
use Rattle.counting.specs.Paper.Sum.{sum_below, same, unequal}
use Rattle.counting.proofs.Sums.{sum-cong, sum-le, sum-add, sum-mul, sum-mul-right, sum-swap, sum-term, sum_one, sum-two, sum-pick}
use Rattle.counting.proofs.Sums.{same_refl, same-ne, differ-eq, differ-ne}
use Rattle.packed_word.specs.Paper.Packed.{distance}
use Rattle.matrix.specs.Paper.Code.{Matrix, entry, has, weight, common, Word, fails, Codeword}
use Rattle.matrix.specs.Paper.PlainCheck.{Rows}
use Rattle.matrix.proofs.Rows.{has-le, row-sum, clean_at}
use Rattle.matrix.proofs.Linear.{fails-differ}
use Rattle.majority_logic.specs.Paper.Votes.{votes}

-- the number of rows that have both columns
share : Matrix → ℕ → ℕ → ℕ
share H j l = sum_below H.m (λ i. has H i j * has H i l)

-- the changes in row i, of changes e
hits : Matrix → (ℕ → ℕ) → ℕ → ℕ
hits H e i = sum_below H.rho (λ k. e (entry H i k))

-- the changes in the rows of column j
touched : Matrix → (ℕ → ℕ) → ℕ → ℕ
touched H e j = sum_below H.m (λ i. has H i j * hits H e i)

-- the places at which a word differs from the codeword
change : (ℕ → ℕ) → (ℕ → ℕ) → ℕ → ℕ
change z c j = unequal (z j) (c j)

-- a factor that is 0 or 1
zero-or-one : (x : ℕ) → x ≤ 1 → (x ≡ 0) ⊎ (x ≡ 1)
zero-or-one zero h = inl refl
zero-or-one (suc zero) h = inr refl
zero-or-one (suc (suc x)) h = absurd (omega arith)

-- the first factor of a product that is not 0
pos-left : (x y : ℕ) → 0 < x * y → 0 < x
pos-left zero y h = omega arith
pos-left (suc x) y h = omega arith

-- and the second
pos-right : (x y : ℕ) → 0 < x * y → 0 < y
pos-right x zero h = omega arith
pos-right x (suc y) h = omega arith

-- the distance counts the changes
distance-change : (n : ℕ) (z c : ℕ → ℕ) → distance n z c ≡ sum_below n (change z c)
unfolding distance change
distance-change n z c = refl

module _ (H : Matrix) (r : Rows H) where
  -- a column shares all its rows with itself
  share-self : (j : ℕ) → share H j j ≡ weight H j
  unfolding share weight
  share-self j = sum-cong H.m (λ i l. square (zero-or-one (has H i j) (has-le H r i j l)))
    where
      square : {x : ℕ} → (x ≡ 0) ⊎ (x ≡ 1) → x * x ≡ x
      square (inl e) = rw e
      square (inr e) = rw e

  -- and at most one with any other column
  share-le : (j l : ℕ) → j < H.n → l < H.n → (j ≡ l → ⊥) → share H j l ≤ 1
  unfolding share common
  share-le j l hj hl ne =
      sum_one H.m (λ i. has H i j * has H i l) (λ i h. mul-le-mul (has-le H r i j h) (has-le H r i l h))
      (λ i i' lt h p p'. omega (
        arith,
        r.apart i i' lt h,
        row-sum H r i (omega arith) (has H i'),
        sum-two H.n (λ x. has H i x * has H i' x) j l hj hl ne
            (mul-pos (pos-left (has H i j) (has H i l) p) (pos-left (has H i' j) (has H i' l) p'))
            (mul-pos (pos-right (has H i j) (has H i l) p) (pos-right (has H i' j) (has H i' l) p')),
      ))

  -- a change counts once for each row that its column shares with column j
  touched-share : (e : ℕ → ℕ) (j : ℕ) → touched H e j ≡ sum_below H.n (λ l. share H j l * e l)
  unfolding touched hits share
  touched-share e j =
      sum-cong H.m (λ i h.
      ap (λ (x : ℕ). has H i j * x) (row-sum H r i h e) ∙ sym (sum-mul H.n (has H i j) (λ l. has H i l * e l)))
      ∙ sum-swap H.m H.n (λ i l. has H i j * (has H i l * e l))
      ∙ sum-cong H.n (λ l h.
      sum-cong H.m (λ i h. sym (mul_assoc (has H i j) (has H i l) (e l)))
      ∙ sum-mul-right H.m (e l) (λ i. has H i j * has H i l))

  -- so the rows of column j have its own change once each, and any other change at most once in all
  touched-le : (e : ℕ → ℕ) (j : ℕ) → j < H.n → touched H e j + e j ≤ weight H j * e j + sum_below H.n e
  touched-le e j hj =
      omega (
        arith,
        touched-share e j,
        sum-add H.n (λ l. share H j l * e l) (λ l. same j l * e l),
        sum-add H.n (λ l. same j l * (weight H j * e l)) e,
        sum-pick H.n e j hj,
        sum-pick H.n (λ l. weight H j * e l) j hj,
        sum-le H.n each,
      )
    where
      each : (l : ℕ) → l < H.n → share H j l * e l + same j l * e l ≤ same j l * (weight H j * e l) + e l
      each l hl =
          elim (ℕ_discrete j l) [
            | yes q ↦ rw (← q, share-self, same_refl) (omega arith)
            | no ne ↦ rw (same-ne j l ne) (omega (arith, mul-le-mul_right (e l) (share-le j l hj hl ne)))
          ]

  module _ (c z : ℕ → ℕ) (cw : Codeword H c) (zw : Word H z) where
    -- a check fails where an odd number of its columns are changed
    fails-hits : (i : ℕ) → i < H.m → fails H z i ≡ hits H (change z c) i % 2
    unfolding fails hits change
    fails-hits i h = omega (arith, fails-differ H z c r zw cw.word i h, clean_at H c cw.clean i h)

    -- a column that is not changed has at most as many failing checks as there are changes
    pub votes-kept : (j : ℕ) → j < H.n → z j ≡ c j → votes H z j ≤ distance H.n z c
    unfolding votes touched change
    votes-kept j hj e =
        omega (
          arith,
          distance-change H.n z c,
          rw (differ-eq (z j) (c j) e) at (touched-le (change z c) j hj),
          sum-le H.m each,
        )
      where
        each : (i : ℕ) → i < H.m → has H i j * fails H z i ≤ has H i j * hits H (change z c) i
        each i h = mul-le-mul_left (has H i j) (omega (arith, fails-hits i h))

    -- one that is changed has more than its weight less that number
    pub votes-changed : (j : ℕ) → j < H.n → (z j ≡ c j → ⊥) → weight H j < votes H z j + distance H.n z c
    unfolding votes touched weight hits change
    votes-changed j hj ne =
        omega (
          arith,
          distance-change H.n z c,
          rw (differ-ne (z j) (c j) ne) at (touched-le (change z c) j hj),
          sum-le H.m each,
          sum-mul-right H.m 2 (λ i. has H i j),
          sum-add H.m (λ i. has H i j * fails H z i) (λ i. has H i j * hits H (change z c) i),
        )
      where
        each : (i : ℕ) → i < H.m → has H i j * 2 ≤ has H i j * fails H z i + has H i j * hits H (change z c) i
        each i h =
            elim (zero-or-one (has H i j) (has-le H r i j h)) [
              | inl q ↦ rw q (omega arith)
              | inr q ↦
                  let hit : 1 ≤ hits H (change z c) i =
                  omega (
                    arith,
                    row-sum H r i h (change z c),
                    sum-term H.n (λ l. has H i l * change z c l) j hj,
                    ap₂ ◌*◌ q (differ-ne (z j) (c j) ne),
                  ) in
                  rw q (omega (arith, fails-hits i h))
            ]
