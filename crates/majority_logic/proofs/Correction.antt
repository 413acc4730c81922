-- One-step voting restores a codeword of which few bits were changed, and codewords lie far apart: on words as functions.
--   votes-weight, votes-small, votes-le, votes-clean                         == how many votes a bit can have
--   flipped-kept, flipped-turned, flipped-clean, flipped-bit                 == the word after the vote
--   flipped-own, flipped-equal                                               == as a program tests it: by the own weight, or by gamma where all weigh it
--   step_word-flipped, step_word-bit                                         == the word that one-step voting writes
--   failing-unchanged, failing-changed                                       == whether a check fails, by whether a bit was changed
--   flipped-restores, flipped-passes, flipped-distance                       == the vote on a codeword with few changes
--   step_word-restores, step_rounds-changed, one_step-restores               == what one-step voting then writes and reports
--   far, far-gamma                                                           == how far two codewords lie apart
-- Assumes nothing.
use mathlib.Core.Path.{◌≡◌, refl, sym, ◌∙◌, fun_ext}
use mathlib.Core.Logic.{inl, inr}
use mathlib.Core.Bool.{cond}
use Prim.Native.Nat.{ℕ, ◌-◌, ◌*◌, ◌≤◌, ◌<◌}
use native.Mathlib.Nat.{eq-zero-or-pos, mul-zero, mul-le-mul_left, mul-le-mul_right}
use native.Mathlib.Decide.{ℕ_discrete, dec_lt}
use native.Mathlib.Omega.{arith}
use lib.Dec.{ltb, eqb}
use borrow.Author.Tests.{lt-ltb, le-ltb, eq-eqb, ne_eqb, eqb-true}
use Rattle.counting.proofs.Sums.{sum-le, sum-zero}
use Rattle.counting.proofs.Searches.{cases}
use Rattle.answers.specs.Paper.Answers.{report}
use Rattle.packed_word.specs.Paper.Packed.{distance}
use Rattle.packed_word.proofs.Distances.{distance-cong, distance-sym, distance-agree, distance-apart}
use Rattle.matrix.specs.Paper.Code.{Matrix, has, weight, Word, fails, failing, Codeword}
use Rattle.matrix.specs.Paper.PlainCheck.{Rows, Accepted}
use Rattle.matrix.proofs.Rows.{has-le, clean_at, fails-bit, failing-cong}
use Rattle.matrix.proofs.Weights.{weight-least, weight-small, weight-equal}
use Rattle.majority_logic.specs.Paper.Votes.{votes, flip_when, flipped}
use Rattle.majority_logic.specs.Paper.OneStep.{step_word, step_rounds, one_step_report}
use Rattle.majority_logic.proofs.Votes.{votes-kept, votes-changed}

-- ---- votes

-- no more checks fail on a column than it has
pub votes-weight : (H : Matrix) (z : ℕ → ℕ) (j : ℕ) → votes H z j ≤ weight H j
unfolding votes weight
votes-weight H z j = sum-le H.m each
  where
    each : (i : ℕ) → i < H.m → has H i j * fails H z i ≤ has H i j
    each i h =
        let bit : fails H z i ≤ 1 = omega (arith, fails-bit H z i) in omega (arith, mul-le-mul_left (has H i j) bit)

-- so at most 32, also on a column that the matrix does not have
pub votes-small : (H : Matrix) → Accepted H → (z : ℕ → ℕ) (j : ℕ) → votes H z j ≤ 32
votes-small H a z j = omega (arith, votes-weight H z j, weight-small H a j)

-- no more checks fail on a column than fail at all
pub votes-le : (H : Matrix) → Rows H → (z : ℕ → ℕ) (j : ℕ) → votes H z j ≤ failing H z
unfolding votes failing
votes-le H r z j = sum-le H.m each
  where
    each : (i : ℕ) → i < H.m → has H i j * fails H z i ≤ fails H z i
    each i h = omega (arith, mul-le-mul_right (fails H z i) (has-le H r i j h))

-- where no check fails there are no votes
pub votes-clean : (H : Matrix) (z : ℕ → ℕ) → failing H z ≡ 0 → (j : ℕ) → votes H z j ≡ 0
unfolding votes
votes-clean H z e j = sum-zero H.m (λ i h. rw (clean_at H z e i h) (mul-zero (has H i j)))

-- ---- the word after the vote

-- "A tie keeps the bit", and so does any lesser vote
pub flipped-kept : (H : Matrix) (z : ℕ → ℕ) (j : ℕ) → 2 * votes H z j ≤ weight H j → flipped H z j ≡ z j
unfolding flipped
flipped-kept H z j h = rw le-ltb

-- more than half turns it over
pub flipped-turned : (H : Matrix) (z : ℕ → ℕ) (j : ℕ) → weight H j < 2 * votes H z j → flipped H z j ≡ 1 - z j
unfolding flipped
flipped-turned H z j h = rw lt-ltb

-- where no check fails nothing is flipped
pub flipped-clean : (H : Matrix) (z : ℕ → ℕ) → failing H z ≡ 0 → (j : ℕ) → flipped H z j ≡ z j
flipped-clean H z e j = flipped-kept H z j (omega (arith, votes-clean H z e j))

-- a bit stays a bit
pub flipped-bit : (H : Matrix) (z : ℕ → ℕ) → Word H z → Word H (flipped H z)
unfolding Word
flipped-bit H z zw j h =
    elim (dec_lt (weight H j) (2 * votes H z j)) [
      | yes l ↦ omega (arith, flipped-turned H z j l)
      | no g ↦ omega (arith, flipped-kept H z j (omega arith), zw j h)
    ]

-- what a program tests: the votes against the column's own weight
pub flipped-own : (H : Matrix) (z : ℕ → ℕ) (j w v : ℕ) → w ≡ weight H j → v ≡ votes H z j → flip_when (ltb w (2 * v)) (z j) ≡ flipped H z j
unfolding flipped
flipped-own H z j w v e t = rw (e, t) refl

-- which is gamma where the sizes leave no room for columns of unlike weight
pub flipped-equal : (H : Matrix) → Accepted H → H.m * H.rho ≡ H.n * H.gamma → (z : ℕ → ℕ) (j : ℕ) → j < H.n
    → flipped H z j ≡ flip_when (ltb H.gamma (2 * votes H z j)) (z j)
unfolding flipped
flipped-equal H a e z j h = rw (weight-equal H a e j h)

-- one-step voting writes the word after the vote: that no vote is taken where no check fails changes no bit
pub step_word-flipped : (H : Matrix) (z : ℕ → ℕ) → step_word H z ≡ flipped H z
unfolding step_word
step_word-flipped H z =
    fun_ext (λ j. cases (eqb (failing H z) 0) (λ y. rw y (sym (flipped-clean H z (eqb-true (failing H z) 0 y) j))) (λ o. rw o))

-- and a word
pub step_word-bit : (H : Matrix) (z : ℕ → ℕ) → Word H z → Word H (step_word H z)
step_word-bit H z zw = rw (step_word-flipped H z) (flipped-bit H z zw)

-- ---- correction

-- two numbers that are 0 together
eqb-zero : (a b : ℕ) → (b ≡ 0 → a ≡ 0) → (0 < b → 0 < a) → eqb a 0 ≡ eqb b 0
eqb-zero a b none some =
    elim (eq-zero-or-pos b) [
      | inl e ↦ eq-eqb a 0 (none e) ∙ sym (eq-eqb b 0 e)
      | inr l ↦ ne_eqb a 0 (λ e. omega (arith, some l)) ∙ sym (ne_eqb b 0 (λ e. omega arith))
    ]

module _ (H : Matrix) (r : Rows H) where
  -- no check of a codeword fails where no bit of it is changed
  pub failing-unchanged : (c z : ℕ → ℕ) → Codeword H c → distance H.n z c ≡ 0 → failing H z ≡ 0
  failing-unchanged c z cw e = failing-cong H r z c (distance-agree H.n z c e) ∙ cw.clean

  -- where at most half of any column's weight is changed
  module _ (c z : ℕ → ℕ) (cw : Codeword H c) (zw : Word H z) (few : (j : ℕ) → j < H.n → 2 * distance H.n z c ≤ weight H j) where
    -- a change makes some check fail
    pub failing-changed : 0 < distance H.n z c → 0 < failing H z
    failing-changed h =
        let p = distance-apart H.n z c h in
        omega (arith, votes-le H r z p.0, votes-changed H r c z cw zw p.0 p.1 p.2, few p.0 p.1)

    -- the vote restores each bit
    pub flipped-restores : (j : ℕ) → j < H.n → flipped H z j ≡ c j
    unfolding Word
    flipped-restores j h =
        elim (ℕ_discrete (z j) (c j)) [
          | yes e ↦ flipped-kept H z j (omega (arith, votes-kept H r c z cw zw j h e, few j h)) ∙ e
          | no ne ↦
              flipped-turned H z j (omega (arith, votes-changed H r c z cw zw j h ne, few j h)) ∙ omega (arith, zw j h, cw.word j h)
        ]

    -- so no check fails after it
    pub flipped-passes : failing H (flipped H z) ≡ 0
    flipped-passes = failing-cong H r (flipped H z) c flipped-restores ∙ cw.clean

    -- and as many bits were flipped as had been changed
    pub flipped-distance : distance H.n (flipped H z) z ≡ distance H.n z c
    flipped-distance =
        distance-cong H.n flipped-restores (λ j h. refl) ∙ distance-sym H.n c z

    -- so one-step voting writes the codeword
    pub step_word-restores : (j : ℕ) → j < H.n → step_word H z j ≡ c j
    step_word-restores j h = rw (step_word-flipped H z) (flipped-restores j h)

    -- takes a round where a bit was changed
    pub step_rounds-changed : step_rounds H z ≡ cond (eqb (distance H.n z c) 0) 0 1
    unfolding step_rounds
    step_rounds-changed = rw (eqb-zero (failing H z) (distance H.n z c) (failing-unchanged c z cw) failing-changed)

    -- and reports the word decoded, with the number of changes
    pub one_step-restores : one_step_report H z ≡ report 0 (cond (eqb (distance H.n z c) 0) 0 1) 0 (distance H.n z c)
    unfolding one_step_report
    one_step-restores = rw (step_word-flipped H z) (cc (flipped-passes, step_rounds-changed, flipped-distance))

  -- two codewords that differ do so at more columns than some column is in rows
  pub far : (c c' : ℕ → ℕ) → Codeword H c → Codeword H c' → 0 < distance H.n c c' → (j : ℕ) × (j < H.n) × (weight H j < distance H.n c c')
  far c c' cw cw' h =
      let p = distance-apart H.n c c' h in
      (p.0, p.1, omega (arith, votes-changed H r c' c cw' cw.word p.0 p.1 p.2, votes-le H r c p.0))

-- so they differ in more than gamma columns
pub far-gamma : (H : Matrix) → Accepted H → (c c' : ℕ → ℕ) → Codeword H c → Codeword H c' → 0 < distance H.n c c' → H.gamma < distance H.n c c'
far-gamma H a c c' cw cw' h =
    let p = far H a.rows c c' cw cw' h in omega (arith, p.2, weight-least H a p.0 p.1)
