-- What is promised of an answer of iterative voting: its rounds are at most the limit; decoded says that no check fails, failed that one
-- does and that the rounds are at the limit.
--   decoded-by, failed-by   == the outcome is 0 where no check fails, 1 where one does
--   answer-promised         == an answer keeps all that is promised of it
--   rounds-at-most-limit    == its rounds are at most the limit
--   decoded-only-clean      == decoded says that no check fails
--   failed-only-at-limit    == failed says that a check fails and that the rounds are at the limit
-- Assumes nothing.
use mathlib.Core.Path.{◌≡◌, refl, sym, ap, ◌∙◌}
use mathlib.Core.Logic.{inl, inr}
use mathlib.Core.List.{List}
use Prim.Native.Nat.{ℕ, ◌≤◌, ◌<◌}
use native.Mathlib.Decide.{ℕ_discrete}
use native.Mathlib.Omega.{arith}
use borrow.Author.Tests.{eq-eqb, ne_eqb}
use lib.Ieee.{Float}
use Rattle.answers.specs.Paper.Answers.{Verdict, accepted, refused, Said, refusal, report, outcome_by, after}
use Rattle.matrix.specs.Paper.Code.{Matrix, failing}
use Rattle.quantiser_levels.specs.Paper.Samples.{Setting, largest}
use Rattle.iterative_core.specs.Paper.Iterative.{start_of, end_from, report_at, iterative_verdict, iterative_of}
use Rattle.iterative_rounds.specs.Paper.Ends.{Promised}
use Rattle.iterative_rounds.proofs.Ends.{rounds-within, fails-at-limit}

-- ---- an outcome by the failing checks

-- the outcome is 0 where no check fails, 1 where one does
pub decoded-by : (f : ℕ) → f ≡ 0 → outcome_by f ≡ 0
decoded-by f e = rw (eq-eqb f 0 e)

pub failed-by : (f : ℕ) → 0 < f → outcome_by f ≡ 1
failed-by f h = rw (ne_eqb f 0 (λ e. omega arith))

promised-by : (limit k f o : ℕ) → o ≡ outcome_by f → k ≤ limit → (0 < f → k ≡ limit) → Promised limit o k f
promised-by limit k f o e within stop =
    elim (ℕ_discrete f 0) [
      | yes q ↦
          let d : o ≡ 0 = e ∙ decoded-by f q in
          record { ended = inl d; within = within; decoded = λ h. q; failed = λ h. absurd (omega arith) }
      | no ne ↦
          let d : o ≡ 1 = e ∙ failed-by f (omega arith) in
          record { ended = inr d; within = within; decoded = λ h. absurd (omega arith); failed = λ h. (stop (omega arith), omega arith) }
    ]

-- ---- an answer that is a report is that of the end

no-report : (a b o k f c : ℕ) → refusal a b ≡ report o k f c → ⊥
no-report a b o k f c e = let z : ◌≡◌ {A = ℕ} 0 1 = cc in omega arith

said-report : (v : Verdict) (a : Said) (o k f c : ℕ) → after v a ≡ report o k f c → a ≡ report o k f c
said-report accepted a o k f c e = e
said-report (refused x y) a o k f c e = absurd (no-report x y o k f c e)

-- an answer keeps all that is promised of it
pub answer-promised : (H : Matrix) (S : Setting) (xs : List Float) (bytes levels o k f c : ℕ) → iterative_of H S xs bytes levels ≡ report o k f c
    → Promised S.limit o k f
unfolding iterative_of report_at end_from
answer-promised H S xs bytes levels o k f c e =
    let at-end = end_from H S xs in
    let q : report (outcome_by (failing H at-end.last.z)) at-end.k (failing H at-end.last.z) _ ≡ report o k f c =
    said-report (iterative_verdict H S xs bytes levels) (report_at H (start_of S xs) at-end) o k f c e in
    let qo : outcome_by (failing H at-end.last.z) ≡ o = cc in
    let qk : at-end.k ≡ k = cc in
    let qf : failing H at-end.last.z ≡ f = cc in
    promised-by S.limit k f o (sym qo ∙ ap outcome_by qf) (omega (arith, rounds-within H (largest S.bits) S.limit (start_of S xs)))
    (λ h. sym qk ∙ fails-at-limit H (largest S.bits) S.limit (start_of S xs) (omega arith))

-- ---- the same, one by one

module _ (H : Matrix) (S : Setting) (xs : List Float) (bytes levels : ℕ) where
  -- its rounds are at most the limit
  pub rounds-at-most-limit : (o k f c : ℕ) → iterative_of H S xs bytes levels ≡ report o k f c → k ≤ S.limit
  rounds-at-most-limit o k f c e = (answer-promised H S xs bytes levels o k f c e).within

  -- decoded says that no check fails
  pub decoded-only-clean : (k f c : ℕ) → iterative_of H S xs bytes levels ≡ report 0 k f c → f ≡ 0
  decoded-only-clean k f c e = (answer-promised H S xs bytes levels 0 k f c e).decoded refl

  -- failed says that a check fails and that the rounds are at the limit
  pub failed-only-at-limit : (k f c : ℕ) → iterative_of H S xs bytes levels ≡ report 1 k f c → (k ≡ S.limit) × (0 < f)
  failed-only-at-limit k f c e = (answer-promised H S xs bytes levels 1 k f c e).failed refl
