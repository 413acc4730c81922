-- One call: what the state then says of the word, what the opening's levels move, and that a session ends within its round limit.
--   after-working            == working says that a check fails and that the rounds are not at the limit
--   open-means, step-means   == after an accepted opening or step the record's state says what holds of the word
--   opened-counts            == what is lent as the opening's levels moves the count of changed bits alone
--   ends-within              == a session ends within its round limit
-- Assumes nothing.
use mathlib.Core.Path.{◌≡◌, refl, ap, ◌∙◌}
use mathlib.Core.List.{List}
use Prim.Native.Nat.{ℕ, suc, ◌≤◌, ◌<◌}
use native.Mathlib.Omega.{arith}
use borrow.Author.Tests.{eqb-true, eqb-false}
use lib.Dec.{eqb}
use lib.IntN.{ℤ}
use lib.Ieee.{Float}
use Rattle.counting.proofs.Searches.{cases}
use Rattle.answers.specs.Paper.Answers.{Verdict, accepted, refused}
use Rattle.packed_word.specs.Paper.Packed.{bit_at}
use Rattle.matrix.specs.Paper.Code.{Matrix, failing}
use Rattle.matrix.specs.Paper.PlainCheck.{Rows}
use Rattle.matrix.proofs.Rows.{failing-cong}
use Rattle.quantiser_levels.specs.Paper.Samples.{Setting}
use Rattle.iterative_rounds.specs.Paper.Rounds.{State}
use Rattle.iterative_core.specs.Paper.Iterative.{start_of}
use Rattle.session_record.specs.Paper.Record.{Course, Record, working, decoded, failed, course_in, state_after}
use Rattle.session_asking.specs.Paper.Asked.{Held, lent, open_verdict, step_verdict}
use Rattle.session_asking.specs.Paper.PlainCalls.{Steppable}
use Rattle.session.specs.Paper.Steps.{Left, course_for, held_at, leave, opened_left, open_of, stepped_state, stepped_left, step_of}
use Rattle.session.specs.Paper.WholeBySteps.{except_changed, OpenedCounts, Means, Ran, opened, stepped, step_refused, open_refused, Within}
use Rattle.session_asking.proofs.Questions.{accepted-open, accepted-step, opened-free}
use Rattle.session.proofs.Kept.{refused-open-keeps, refused-step-keeps, accepted-opens, accepted-steps, start-bits, round-bits}
use Rattle.session.proofs.Buffers.{bits_back}

-- ---- what the state says

module _ (f : ℕ) (course : Course) (k : ℕ) where
  -- working says that a check fails and that the rounds are not at the limit
  pub after-working : state_after f course k ≡ working → (f ≡ 0 → ⊥) × (k ≡ course.limit → ⊥)
  after-working e =
      cases (eqb f 0) (λ y. absurd (let q : 2 ≡ working = rw y at e in omega arith))
      (λ n. cases (eqb k course.limit) (λ y. absurd (let q : 3 ≡ working = rw (n, y) at e in omega arith))
      (λ m. (eqb-false f 0 n, eqb-false k course.limit m)))

  after-decoded : state_after f course k ≡ decoded → f ≡ 0
  after-decoded e =
      cases (eqb f 0) (λ y. eqb-true f 0 y)
      (λ n. cases (eqb k course.limit) (λ y. absurd (let q : 3 ≡ decoded = rw (n, y) at e in omega arith))
      (λ m. absurd (let q : 1 ≡ decoded = rw (n, m) at e in omega arith)))

  after-failed : state_after f course k ≡ failed → (k ≡ course.limit) × (f ≡ 0 → ⊥)
  after-failed e =
      cases (eqb f 0) (λ y. absurd (let q : 2 ≡ failed = rw y at e in omega arith))
      (λ n. cases (eqb k course.limit) (λ y. (eqb-true k course.limit y, eqb-false f 0 n))
      (λ m. absurd (let q : 1 ≡ failed = rw (n, m) at e in omega arith)))

-- the state of the record is that of the word beside it
held-means : (H : Matrix) → Rows H → (course : Course) (k : ℕ) (s : State) (h : Held) → ((j : ℕ) → s.z j < 2) → k ≤ course.limit
    → Means H (held_at H course k s h).rec (bit_at (held_at H course k s h).word)
held-means H r course k s h b l =
    let f : failing H (bit_at (held_at H course k s h).word) ≡ failing H s.z =
    failing-cong H r (bit_at (held_at H course k s h).word) s.z (bits_back H.n s.z (λ j m. b j) h.word) in
    record {
      if_working = λ e. let p = after-working (failing H s.z) course k e in (omega (arith, p.1), omega (arith, p.0));
      if_decoded = λ e. f ∙ after-decoded (failing H s.z) course k e;
      if_failed = λ e. let p = after-failed (failing H s.z) course k e in (p.0, omega (arith, p.1));
    }

-- after an accepted opening or step the record's state says what holds of the word
pub open-means : (H : Matrix) (S : Setting) (xs : List Float) (h : Held) → open_verdict H S xs h ≡ accepted
    → Means H (open_of H S xs h).held.rec (bit_at (open_of H S xs h).held.word)
open-means H S xs h e =
    rw (accepted-opens H S xs h e)
    (held-means H (accepted-open H S xs h e).matrix.rows (course_for S) 0 (start_of S xs) h (start-bits S xs) (omega arith))

pub step-means : (H : Matrix) (w : List ℕ) (o : List ℤ) (h : Held) → step_verdict H w o h ≡ accepted
    → Means H (step_of H w o h).held.rec (bit_at (step_of H w o h).held.word)
step-means H w o h e =
    let s : Steppable H w o h = accepted-step H w o h e in
    rw (accepted-steps H w o h e)
    (held-means H s.matrix.rows (course_in h.rec) (suc h.rec.k) (stepped_state H h) h
    (round-bits H _ _) (omega (arith, s.usable.left)))

-- ---- the levels lent as those of the opening

-- what two calls of one verdict leave is alike where it is when they are accepted
held_by : (v : Verdict) (new new' : Left) (old : Held) → new.held ≡ new'.held → (leave v new old).held ≡ (leave v new' old).held
held_by accepted new new' old e = e
held_by (refused k x) new new' old e = refl

-- and so is what they say
said-by : (v : Verdict) (new new' : Left) (old : Held) → except_changed new.said ≡ except_changed new'.said
    → except_changed (leave v new old).said ≡ except_changed (leave v new' old).said
said-by accepted new new' old e = e
said-by (refused k x) new new' old e = refl

-- what is lent as the opening's levels moves the count of changed bits alone
pub opened-counts : (H : Matrix) (w : List ℕ) (h : Held) → OpenedCounts H w h
unfolding step_of
opened-counts H w h =
    record {
      held = λ o o' e.
          ap (λ (v : Verdict). (leave v (stepped_left H w o h) h).held) (opened-free H w h o o' e)
          ∙ held_by (step_verdict H w o' h) (stepped_left H w o h) (stepped_left H w o' h) h refl;
      said = λ o o' e.
          ap (λ (v : Verdict). except_changed (leave v (stepped_left H w o h) h).said) (opened-free H w h o o' e)
          ∙ said-by (step_verdict H w o' h) (stepped_left H w o h) (stepped_left H w o' h) h refl;
    }

-- ---- a session ends

-- a record in whose state it says that k is below the limit
within-limit : {limit t : ℕ} (r : Record) → r.limit ≡ limit → r.k ≡ t → t ≤ limit → (r.state ≡ working → t < limit) → Within limit r t
within-limit r l k m w =
    record {
      same_limit = l;
      counts = k;
      at_most = m;
      if_working = w;
      further = λ H w' word o levels e. w (accepted-step H w' o (lent r word levels) e).usable.works;
    }

-- a session ends within its round limit
pub ends-within : {limit : ℕ} {r : Record} {t : ℕ} → Ran limit r t → Within limit r t
ends-within (opened H S xs h e q) =
    rw (accepted-opens H S xs h e)
    (within-limit (opened_left H S xs h).held.rec q refl (omega arith)
    (λ w. let p = after-working (failing H (start_of S xs).z) (course_for S) 0 w in omega (arith, p.1)))
ends-within (stepped {r} {t} p H w word o levels e) =
    let s : Steppable H w o (lent r word levels) = accepted-step H w o (lent r word levels) e in
    let i : Within _ r t = ends-within p in
    rw (accepted-steps H w o (lent r word levels) e)
    (within-limit (stepped_left H w o (lent r word levels)).held.rec i.same_limit (ap suc i.counts)
    (omega (arith, i.same_limit, i.counts, s.usable.left))
    (λ v. let q = after-working (failing H (stepped_state H (lent r word levels)).z) (course_in r) (suc r.k) v in
    omega (arith, q.1, i.same_limit, i.counts, s.usable.left)))
ends-within (step_refused {r} {t} p H w word o levels k x e) = rw (refused-step-keeps H w o (lent r word levels) k x e) (ends-within p)
ends-within (open_refused {r} {t} p H S xs word levels k x e) = rw (refused-open-keeps H S xs (lent r word levels) k x e) (ends-within p)
