-- Rounds of iterative voting near a codeword c, over each column's own weight: g is a number that no weight is below, and at most
-- t bits are wrong, with 2 * t at most g. A right bit has at most t failing checks, so no round moves its level past the middle to
-- the other side; a wrong bit has at least its weight less t - 1, so each round moves its level toward c by g - 2 * t + 2 or more.
--   level-zero, level-one   == the number of a level after a round, by the votes
--   Nearing                 == what holds after k rounds
--   nearing-closer          == no more bits are wrong than at the start
--   round_keeps             == a right bit stays right
--   nearing-next, nearing   == a round carries it on, so it holds after each
--   nearing-there           == where k strides are more than L every bit is right
-- Levels are written as their numbers of `iterative_levels`, from 0 to 2 * L with the middle L. Assumes nothing.
use mathlib.Core.Path.{◌≡◌, sym, ap, ◌∙◌}
use Prim.Native.Nat.{ℕ, zero, suc, min, ◌+◌, ◌-◌, ◌*◌, ◌≤◌, ◌<◌}
use native.Mathlib.Nat.{suc-mul}
use native.Mathlib.Decide.{ℕ_discrete}
use native.Mathlib.Omega.{arith}
use lib.IntN.{ℤ, nat_abs, ◌+ℤ◌}
use Rattle.counting.specs.Paper.Sum.{unequal}
use Rattle.counting.specs.Paper.Integers.{cut, above_zero}
use Rattle.counting.proofs.Sums.{sum-le, differ-eq, differ-ne, differ-le}
use Rattle.packed_word.specs.Paper.Packed.{distance}
use Rattle.matrix.specs.Paper.Code.{Matrix, weight, Word, Codeword}
use Rattle.matrix.specs.Paper.PlainCheck.{Rows}
use Rattle.majority_logic.specs.Paper.Votes.{votes}
use Rattle.majority_logic.proofs.Votes.{votes-kept, votes-changed}
use Rattle.iterative_levels.specs.Levels.{biased}
use Rattle.iterative_levels.proofs.Levels.{next-biased, above-bit}
use Rattle.iterative_rounds.specs.Paper.Rounds.{State, level_after, round_of}
use Rattle.iterative_rounds.specs.Paper.Ends.{state_at}
use Rattle.iterative_rounds.proofs.Extrinsic.{extrinsic-zero, extrinsic-one}
use Rattle.iterative_rounds.proofs.Ends.{round-bound}
use Rattle.iterative_rule.specs.Paper.Claims.{stride}
use Rattle.iterative_rule.proofs.Sides.{above-high, above_low, high-above, low-above}

-- ---- a level after a round

module _ (H : Matrix) (r : Rows H) (L : ℕ) (s : State) (j : ℕ) (h : nat_abs (s.R j) ≤ L) where
  level-zero : s.z j ≡ 0 → biased L (level_after H L s j) ≡ min (2 * L) (biased L (s.R j) + 2 * votes H s.z j - weight H j)
  unfolding level_after
  level-zero e =
      ap (λ (x : ℤ). biased L (cut L (s.R j +ℤ x))) (extrinsic-zero H r s.z j e)
      ∙ next-biased L (2 * votes H s.z j) (weight H j) (s.R j) h

  level-one : s.z j ≡ 1 → biased L (level_after H L s j) ≡ min (2 * L) (biased L (s.R j) + weight H j - 2 * votes H s.z j)
  unfolding level_after
  level-one e =
      ap (λ (x : ℤ). biased L (cut L (s.R j +ℤ x))) (extrinsic-one H r s.z j e)
      ∙ next-biased L (weight H j) (2 * votes H s.z j) (s.R j) h

-- ---- what holds after k rounds

-- z₀ is the word at the start. A wrong bit 0 has risen by k strides from 0 at least, a wrong bit 1 has fallen by so much from 2 * L
pub record Nearing (H : Matrix) (g L t : ℕ) (c z₀ : ℕ → ℕ) (k : ℕ) (s : State) : Type 0 where
  pub within : (j : ℕ) → j < H.n → nat_abs (s.R j) ≤ L
  pub bit : (j : ℕ) → j < H.n → s.z j < 2
  pub kept : (j : ℕ) → j < H.n → z₀ j ≡ c j → s.z j ≡ c j
  pub low : (j : ℕ) → j < H.n → s.z j ≡ 0 → biased L (s.R j) ≤ L
  pub high : (j : ℕ) → j < H.n → s.z j ≡ 1 → L ≤ biased L (s.R j)
  pub firm : (j : ℕ) → j < H.n → s.z j ≡ 1 → c j ≡ 1 → L < biased L (s.R j) + (g - 2 * t)
  pub risen : (j : ℕ) → j < H.n → s.z j ≡ 0 → c j ≡ 1 → k * stride g t ≤ biased L (s.R j)
  pub fallen : (j : ℕ) → j < H.n → s.z j ≡ 1 → c j ≡ 0 → biased L (s.R j) + k * stride g t ≤ 2 * L

module _ (H : Matrix) (r : Rows H) (g : ℕ) (heavy : (j : ℕ) → j < H.n → g ≤ weight H j) (L : ℕ) (some : 0 < L)
    (c z₀ : ℕ → ℕ) (cw : Codeword H c) (t : ℕ) (half : 2 * t ≤ g) (few : distance H.n z₀ c ≤ t) where
  module _ (k : ℕ) (s : State) (i : Nearing H g L t c z₀ k s) where
    nearing-word : Word H s.z
    unfolding Word
    nearing-word j l = i.bit j l

    -- the wrong bits are among those of the start
    pub nearing-closer : distance H.n s.z c ≤ distance H.n z₀ c
    unfolding distance
    nearing-closer = sum-le H.n each
      where
        each : (j : ℕ) → j < H.n → unequal (s.z j) (c j) ≤ unequal (z₀ j) (c j)
        each j l =
            elim (ℕ_discrete (z₀ j) (c j)) [
              | yes e ↦ omega (arith, differ-eq (s.z j) (c j) (i.kept j l e))
              | no ne ↦ omega (arith, differ-ne (z₀ j) (c j) ne, differ-le (s.z j) (c j))
            ]

    module _ (j : ℕ) (l : j < H.n) where
      -- at most t checks fail on a right bit
      right-votes : s.z j ≡ c j → votes H s.z j ≤ t
      right-votes e = omega (arith, votes-kept H r c s.z cw nearing-word j l e, nearing-closer)

      -- more than the weight less t on a wrong one
      wrong-votes : (s.z j ≡ c j → ⊥) → weight H j < votes H s.z j + t
      wrong-votes ne = omega (arith, votes-changed H r c s.z cw nearing-word j l ne, nearing-closer)

      -- a right bit stays right
      round_keeps : s.z j ≡ c j → above_zero (level_after H L s j) ≡ c j
      unfolding Word
      round_keeps e =
          elim (ℕ_discrete (s.z j) 0) [
            | yes q ↦
                low-above L (level_after H L s j) (omega (arith, level-zero H r L s j (i.within j l) q, i.low j l q, right-votes e, heavy j l))
                ∙ omega arith
            | no nq ↦
                let q : s.z j ≡ 1 = omega (arith, i.bit j l) in
                high-above L (level_after H L s j) (omega (arith, level-one H r L s j (i.within j l) q, i.firm j l q (omega arith), right-votes e, heavy j l))
                ∙ omega arith
          ]

      -- a bit that is still wrong after the round has been moved by a stride
      rises : above_zero (level_after H L s j) ≡ 0 → c j ≡ 1 → suc k * stride g t ≤ biased L (level_after H L s j)
      rises e q =
          let ne : s.z j ≡ c j → ⊥ = λ p. omega (arith, round_keeps p) in
          let p : s.z j ≡ 0 = elim (ℕ_discrete (s.z j) 0) [ yes p ↦ p | no np ↦ absurd (ne (omega (arith, i.bit j l))) ] in
          omega (
            arith,
            suc-mul k (stride g t),
            level-zero H r L s j (i.within j l) p,
            above_low L (level_after H L s j) e,
            i.risen j l p q,
            wrong-votes ne,
            heavy j l,
          )

      falls : above_zero (level_after H L s j) ≡ 1 → c j ≡ 0 → biased L (level_after H L s j) + suc k * stride g t ≤ 2 * L
      falls e q =
          let ne : s.z j ≡ c j → ⊥ = λ p. omega (arith, round_keeps p) in
          let p : s.z j ≡ 1 = elim (ℕ_discrete (s.z j) 0) [ yes p ↦ absurd (ne (p ∙ sym q)) | no np ↦ omega (arith, i.bit j l) ] in
          omega (
            arith,
            suc-mul k (stride g t),
            level-one H r L s j (i.within j l) p,
            above-high L (level_after H L s j) e,
            i.fallen j l p q,
            wrong-votes ne,
            heavy j l,
          )

      -- where k strides are more than L every bit is right
      pub nearing-there : L < k * stride g t → s.z j ≡ c j
      unfolding Word
      nearing-there far =
          elim (ℕ_discrete (s.z j) 0) [
            | yes p ↦ elim (ℕ_discrete (c j) 1) [
              | yes q ↦ absurd (omega (arith, i.risen j l p q, i.low j l p))
              | no nq ↦ omega (arith, cw.word j l)
            ]
            | no np ↦
                let p : s.z j ≡ 1 = omega (arith, i.bit j l) in
                elim (ℕ_discrete (c j) 0) [
                  | yes q ↦ absurd (omega (arith, i.fallen j l p q, i.high j l p))
                  | no nq ↦ omega (arith, cw.word j l)
                ]
          ]

    -- a round carries it on
    nearing-next : Nearing H g L t c z₀ (suc k) (round_of H L s)
    unfolding round_of
    nearing-next =
        record {
          within = λ j l. round-bound H L s j;
          bit = λ j l. above-bit (level_after H L s j);
          kept = λ j l e. round_keeps j l (i.kept j l e);
          low = λ j l e. above_low L (level_after H L s j) e;
          high = λ j l e. omega (arith, above-high L (level_after H L s j) e);
          firm = λ j l e q. omega (arith, above-high L (level_after H L s j) e);
          risen = λ j l e q. rises j l e q;
          fallen = λ j l e q. falls j l e q;
        }

  -- so it holds after each round
  pub nearing : (s : State) → Nearing H g L t c z₀ 0 s → (k : ℕ) → Nearing H g L t c z₀ k (state_at H L s k)
  unfolding state_at
  nearing s i zero = i
  nearing s i (suc k) = nearing-next k (state_at H L s k) (nearing s i k)
