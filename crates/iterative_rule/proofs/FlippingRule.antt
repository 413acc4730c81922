-- The flipping rule for iterative voting, on samples and bytes: the claims of specs/Paper/Claims.antt, for every call that is not refused.
--   iterative-rule   == every codeword changed within the half is recovered where the round limit leaves the rounds for it
--   ample-limit      == a limit of L / 2 + 1 leaves them
--   one-round        == with b = 2 a limit of 1 does, and the rounds are those of one-step voting
-- Assumes nothing.
use mathlib.Core.Path.{◌≡◌, refl, ap, ◌∙◌}
use mathlib.Core.Logic.{inl, inr}
use mathlib.Core.Bool.{cond}
use mathlib.Core.List.{List}
use Prim.Native.Nat.{ℕ, ◌+◌, ◌-◌, ◌*◌, ◌≤◌, ◌<◌}
use native.Mathlib.Nat.{zero-mul}
use native.Mathlib.Omega.{arith}
use native.Mathlib.Decide.{ℕ_discrete}
use borrow.Author.Tests.{eq-eqb, ne_eqb}
use lib.Dec.{eqb}
use lib.IntN.{ℤ}
use lib.Ieee.{Float, nan}
use lib.ListN.{length, get_or}
use Rattle.answers.specs.Paper.Answers.{Said, report, written}
use Rattle.packed_word.specs.Paper.Packed.{bit_at}
use Rattle.matrix.specs.Paper.Code.{Matrix, weight}
use Rattle.matrix.proofs.Weights.{weight-least}
use Rattle.quantiser_levels.specs.Paper.Samples.{Setting, largest, level_of, hard_bit}
use Rattle.quantiser_settings.proofs.Ranges.{fits-reads, largest-some, level-bound, hard-bit-at}
use Rattle.majority_logic.proofs.FlippingRule.{sent-codeword, pack-is}
use Rattle.iterative_levels.specs.Levels.{biased}
use Rattle.iterative_levels.proofs.Levels.{biased-le}
use Rattle.iterative_changed.specs.Paper.Changed.{decided_in, changed}
use Rattle.iterative_changed.proofs.Changes.{changed-cong, changed-sym}
use Rattle.iterative_core.specs.Paper.Iterative.{start_of, end_from, report_at, iterative_verdict, iterative_of, iterative_word}
use Rattle.iterative_core.specs.Calls.{CallLent}
use Rattle.iterative_core.proofs.Loans.{verdict-lent}
use Rattle.iterative_rule.specs.Paper.Claims.{wrong_bits, wrong_decided, stride, rounds_for, SamplesWithinHalf, EndsRight}
use Rattle.iterative_rule.specs.Paper.Claims.{IterativeRule, AmpleLimit, OneRound}
use Rattle.iterative_rule.proofs.Sides.{hard-high, hard-firm, hard-low}
use Rattle.iterative_rule.proofs.Approach.{Nearing}
use Rattle.iterative_rule.proofs.Ends.{rounds-most, rounds-one, end-right}

-- ---- a call near a codeword

module _ (H : Matrix) (S : Setting) (xs : List Float) (w : List ℕ) (ls : List ℤ) (c : List ℕ) (lent : CallLent H S xs w ls)
    (h : SamplesWithinHalf H S c xs) where
  abbrev L : ℕ
  L = largest S.bits

  -- a right bit 1 is far enough above the middle
  firm-start : (j : ℕ) → j < H.n → hard_bit xs j ≡ 1 → bit_at c j ≡ 1 → L < biased L (level_of S (get_or xs j nan)) + (H.gamma - 2 * wrong_bits H c xs)
  unfolding hard_bit
  firm-start j l e q =
      elim h.firm [
        | inl less ↦ omega (arith, hard-high S L (get_or xs j nan) e)
        | inr firm ↦ omega (arith, hard-firm S L (get_or xs j nan) e (firm j (omega arith) q e))
      ]

  -- the samples are where the rounds start from
  near-start : Nearing H H.gamma L (wrong_bits H c xs) (bit_at c) (hard_bit xs) 0 (start_of S xs)
  unfolding start_of hard_bit
  near-start =
      record {
        within = λ j l. level-bound S (get_or xs j nan);
        bit = λ j l. hard-bit-at xs j;
        kept = λ j l e. e;
        low = λ j l e. hard-low S L (get_or xs j nan) e;
        high = λ j l e. hard-high S L (get_or xs j nan) e;
        firm = firm-start;
        risen = λ j l e q. omega (arith, zero-mul (stride H.gamma (wrong_bits H c xs)));
        fallen = λ j l e q.
            omega (arith, zero-mul (stride H.gamma (wrong_bits H c xs)), biased-le L (level_of S (get_or xs j nan)) (level-bound S (get_or xs j nan)));
      }

  heavy : (j : ℕ) → j < H.n → H.gamma ≤ weight H j
  heavy = weight-least H lent.matrix

  some : 0 < L
  some = largest-some S.bits (fits-reads S lent.setting).least

  half : 2 * wrong_bits H c xs ≤ H.gamma
  half = omega (arith, h.few)

  module _ (time : rounds_for L H.gamma (wrong_bits H c xs) ≤ S.limit) where
    call_ends : EndsRight H (bit_at c) (wrong_bits H c xs) (rounds_for L H.gamma (wrong_bits H c xs)) (end_from H S xs)
    unfolding end_from start_of
    call_ends =
        end-right H lent.matrix.rows H.gamma heavy L some (bit_at c) (sent-codeword H c h.sent) (start_of S xs) (wrong_bits H c xs) refl
        half near-start S.limit time

    -- what is counted as changed is what was wrong
    call-changed : changed H.n (decided_in (start_of S xs).R) (end_from H S xs).last.z (start_of S xs).z ≡ wrong_decided H S c xs
    unfolding start_of
    call-changed =
        changed-cong H.n (λ j l. refl) call_ends.right (λ j l. refl)
        ∙ changed-sym H.n (decided_in (start_of S xs).R) (bit_at c) (hard_bit xs)

    -- what is reported
    call-says : report_at H (start_of S xs) (end_from H S xs) ≡ report 0 (end_from H S xs).k 0 (wrong_decided H S c xs)
    unfolding report_at
    call-says = rw (call_ends.clean, call-changed)

    -- the bytes that are written are the bytes sent
    call-word : iterative_word H S xs ≡ c
    unfolding iterative_word
    call-word = pack-is H.n (end_from H S xs).last.z c h.sent.word call_ends.right

-- ---- the claims

-- iterative voting recovers every codeword changed within the half
pub iterative-rule : (H : Matrix) (S : Setting) (xs : List Float) (old : List ℕ) (ls : List ℤ)
    → IterativeRule H S xs old (written (iterative_verdict H S xs (length old) (length ls)) (iterative_word H S xs) old) ls
    (iterative_of H S xs (length old) (length ls))
unfolding iterative_of
iterative-rule H S xs old ls c e h time =
    let lent = verdict-lent H S xs old ls e in
    let enough : rounds_for (largest S.bits) H.gamma (wrong_bits H c xs) ≤ S.limit = omega arith in
    let ends = call_ends H S xs old ls c lent h enough in
    record {
      begun = λ wrong. omega (arith, ends.begun (omega arith));
      soon = omega (arith, ends.soon);
      says = rw e (call-says H S xs old ls c lent h enough);
      word = rw (e, call-word H S xs old ls c lent h enough);
    }

-- ---- what follows for a limit that does not ask how many bits are wrong

module _ (H : Matrix) (S : Setting) (xs : List Float) (old new : List ℕ) (ls : List ℤ) (said : Said) (rule : IterativeRule H S xs old new ls said) where
  -- a limit of L / 2 + 1 leaves the rounds for it
  pub ample-limit : AmpleLimit H S xs old new ls said
  ample-limit c e h limit = rule c e h (omega (arith, rounds-most (largest S.bits) H.gamma (wrong_bits H c xs)))

  -- with b = 2 one round does
  pub one-round : OneRound H S xs old new ls said
  one-round c e h two limit =
      let t : ℕ = wrong_bits H c xs in
      let bound : rounds_for (largest S.bits) H.gamma t ≡ cond (eqb t 0) 0 1 = rw two (rounds-one H.gamma t) in
      let r = rule c e h (omega (arith, rounds-most (largest S.bits) H.gamma t, bound, at_most_one t)) in
      let k : (end_from H S xs).k ≡ cond (eqb t 0) 0 1 = between (end_from H S xs).k t r.begun (omega (arith, r.soon, bound)) in
      (r.says ∙ ap (λ (x : ℕ). report 0 x 0 (wrong_decided H S c xs)) k, r.word)
    where
      at_most_one : (t : ℕ) → cond (eqb t 0) 0 1 ≤ 1
      at_most_one t = elim (ℕ_discrete t 0) [ yes e ↦ rw (eq-eqb t 0 e) (omega arith) | no ne ↦ rw (ne_eqb t 0 ne) (omega arith) ]

      between : (k t : ℕ) → (0 < t → 0 < k) → k ≤ cond (eqb t 0) 0 1 → k ≡ cond (eqb t 0) 0 1
      between k t some most =
          elim (ℕ_discrete t 0) [
            | yes e ↦ rw (eq-eqb t 0 e) (omega (arith, rw (eq-eqb t 0 e) at most))
            | no ne ↦ rw (ne_eqb t 0 ne) (omega (arith, some (omega arith), rw (ne_eqb t 0 ne) at most))
          ]
