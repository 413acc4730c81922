-- Where iterative voting ends that starts near a codeword c: with c, within the rounds of specs/Paper/Claims.antt.
--   rounds-far    == as many strides are more than L
--   rounds-most   == the rounds are at most L / 2 + 1
--   rounds-one    == with L = 1 they are 0 or 1
--   end-right     == the end: with c, within the rounds
-- As in proofs/Approach.antt over each column's own weight; here t is the number of wrong bits at the start. Assumes nothing.
use mathlib.Core.Path.{◌≡◌, refl, sym, ap, ◌∙◌}
use mathlib.Core.Bool.{cond}
use mathlib.Core.Logic.{inl, inr}
use Prim.Native.Nat.{ℕ, ◌+◌, ◌*◌, ◌/◌, ◌≤◌, ◌<◌}
use native.Mathlib.Nat.{eq-zero-or-pos, div-lt_iff_lt-mul, div-mul-le_self, mul-le-mul_left}
use native.Mathlib.Decide.{ℕ_discrete, dec_lt}
use native.Mathlib.Omega.{arith}
use borrow.Author.Tests.{eq-eqb, ne_eqb}
use lib.Dec.{eqb}
use Rattle.packed_word.specs.Paper.Packed.{distance}
use Rattle.packed_word.proofs.Distances.{distance-cong, distance_self, distance-agree}
use Rattle.matrix.specs.Paper.Code.{Matrix, weight, Word, failing, Codeword}
use Rattle.matrix.specs.Paper.PlainCheck.{Rows}
use Rattle.matrix.proofs.Rows.{failing-cong}
use Rattle.majority_logic.proofs.Correction.{failing-unchanged, failing-changed}
use Rattle.iterative_rounds.specs.Paper.Rounds.{State, End, end_of}
use Rattle.iterative_rounds.specs.Paper.Ends.{state_at}
use Rattle.iterative_rounds.proofs.Ends.{end-state, earlier-fails, fails-at-limit}
use Rattle.iterative_rule.specs.Paper.Claims.{stride, rounds_for, EndsRight}
use Rattle.iterative_rule.proofs.Approach.{Nearing, nearing-closer, nearing-there, nearing}

-- ---- the rounds

-- a quotient's next number is past the dividend
past : (x d : ℕ) {y : ℕ} → 0 < d → x / d < y → x < y * d
past x d h l = (div-lt_iff_lt-mul h).0 l

-- where a bit is wrong, as many strides are more than L
pub rounds-far : (L g t : ℕ) → (t ≡ 0 → ⊥) → L < rounds_for L g t * stride g t
rounds-far L g t ne = past L (stride g t) (omega arith) (rw (ne_eqb t 0 ne) (omega arith))

-- as a stride is at least 2, they are at most L / 2 + 1
pub rounds-most : (L g t : ℕ) → rounds_for L g t ≤ L / 2 + 1
rounds-most L g t =
    elim (ℕ_discrete t 0) [
      | yes e ↦ rw (eq-eqb t 0 e) (omega arith)
      | no ne ↦
          let d : ℕ = stride g t in
          let two : L / d * 2 ≤ L / d * d = mul-le-mul_left (L / d) (omega arith) in
          rw (ne_eqb t 0 ne) (omega (arith, div-mul-le_self L d))
    ]

-- with L = 1 they are 0 or 1
pub rounds-one : (g t : ℕ) → rounds_for 1 g t ≡ cond (eqb t 0) 0 1
rounds-one g t =
    elim (ℕ_discrete t 0) [
      | yes e ↦ rw (eq-eqb t 0 e)
      | no ne ↦ rw (ne_eqb t 0 ne) (omega (arith, rw (ne_eqb t 0 ne) at (rounds-most 1 g t)))
    ]

-- ---- the end

module _ (H : Matrix) (r : Rows H) (g : ℕ) (heavy : (j : ℕ) → j < H.n → g ≤ weight H j) (L : ℕ) (some : 0 < L) (c : ℕ → ℕ) (cw : Codeword H c)
    (s : State) (t : ℕ) (wrong : distance H.n s.z c ≡ t) (half : 2 * t ≤ g) (near : Nearing H g L t c s.z 0 s) where
  at-round : (k : ℕ) → Nearing H g L t c s.z k (state_at H L s k)
  at-round k = nearing H r g heavy L some c s.z cw t half (omega arith) s near k

  -- after the last of those rounds no check fails
  last-clean : failing H (state_at H L s (rounds_for L g t)).z ≡ 0
  unfolding state_at
  last-clean =
      elim (ℕ_discrete t 0) [
        | yes e ↦ rw (eq-eqb t 0 e) (failing-unchanged H r c s.z cw (wrong ∙ e))
        | no ne ↦
            let k : ℕ = rounds_for L g t in
            failing-cong H r (state_at H L s k).z c
            (λ j l.
            nearing-there H r g heavy L some c s.z cw t half (omega arith) k (state_at H L s k) (at-round k) j l (rounds-far L g t ne))
            ∙ cw.clean
      ]

  -- where no check fails the word is the codeword: too few bits are wrong for another one
  clean-right : (k : ℕ) → failing H (state_at H L s k).z ≡ 0 → (j : ℕ) → j < H.n → (state_at H L s k).z j ≡ c j
  unfolding Word
  clean-right k clean =
      elim (eq-zero-or-pos (distance H.n (state_at H L s k).z c)) [
        | inl e ↦ distance-agree H.n (state_at H L s k).z c e
        | inr p ↦ absurd (omega (arith, failing-changed H r c (state_at H L s k).z cw (λ j l. (at-round k).bit j l) few p))
      ]
    where
      few : (j : ℕ) → j < H.n → 2 * distance H.n (state_at H L s k).z c ≤ weight H j
      few j l =
          omega (
            arith,
            nearing-closer H r g heavy L some c s.z cw t half (omega arith) k (state_at H L s k) (at-round k),
            heavy j l,
          )

  -- with a round limit that leaves those rounds
  module _ (limit : ℕ) (time : rounds_for L g t ≤ limit) where
    abbrev end : End
    end = end_of H L 0 limit s

    end-soon : end.k ≤ rounds_for L g t
    end-soon =
        elim (dec_lt (rounds_for L g t) end.k) [
          | yes l ↦ absurd (omega (arith, last-clean, earlier-fails H L limit s (rounds_for L g t) l))
          | no l ↦ omega arith
        ]

    end_clean : failing H end.last.z ≡ 0
    end_clean =
        elim (eq-zero-or-pos (failing H end.last.z)) [
          | inl e ↦ e
          | inr p ↦
              let q : end.k ≡ rounds_for L g t = omega (arith, end-soon, fails-at-limit H L limit s p) in
              ap (λ (u : State). failing H u.z) (end-state H L limit s) ∙ ap (λ (k : ℕ). failing H (state_at H L s k).z) q ∙ last-clean
        ]

    end-word : (j : ℕ) → j < H.n → end.last.z j ≡ c j
    end-word j l =
        let e = end-state H L limit s in
        ap (λ (u : State). u.z j) e ∙ clean-right end.k (rw e at end_clean) j l

    -- at round 0 the word is that of the start, which is not c where a bit is wrong
    end-begun : 0 < t → 0 < end.k
    unfolding state_at
    end-begun some-wrong =
        elim (eq-zero-or-pos end.k) [
          | inr p ↦ p
          | inl e ↦
              let start : end.last ≡ s = end-state H L limit s ∙ ap (λ (k : ℕ). state_at H L s k) e in
              let same_word : (j : ℕ) → j < H.n → s.z j ≡ c j = λ j l. sym (ap (λ (u : State). u.z j) start) ∙ end-word j l in
              let none : distance H.n s.z c ≡ 0 = distance-cong H.n same_word (λ j l. refl) ∙ distance_self H.n c in
              absurd (omega arith)
        ]

    -- the end: with c, within the rounds
    pub end-right : EndsRight H c t (rounds_for L g t) end
    end-right = record { begun = end-begun; soon = end-soon; clean = end_clean; right = end-word }
