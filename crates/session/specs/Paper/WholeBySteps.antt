-- Stepping round by round, nothing altered in between. (Document 01, "Rounds one at a time"; demand 2; document 02, card 6.)
--   steps_of H w o t l      == what t further steps leave, each lent what the last call left
--   stepped_on H S xs h t   == what t steps after an opening leave, each lent the hard bits and the levels that the opening wrote
--   asks_on H S xs h t      == what the next step asks
--   EndsAlike H S xs h      == the sequence ends with the word, levels and answer of the whole call
--   SteppingIsWhole H S xs h   == so for an accepted opening
--   Means H r z             == what the state of a record says of the word it stands for
--   except_changed s        == an answer without its count of changed bits
--   OpenedCounts H w h      == what is lent as the opening's levels moves the count of changed bits alone
--   Ran limit r t           == a session whose record only its own calls change has the record r after t accepted steps
--   Within limit r t        == it is within its round limit of accepted steps
-- proofs/WholeBySteps.antt and proofs/Calls.antt prove these for every accepted input. Assumes nothing.
use Rattle.std.specs.Prelude.{ℕ, zero, suc, ◌≤◌, ◌<◌, ◌≡◌, List, ℤ, Float, length}
use Rattle.answers.specs.Paper.Answers.{Verdict, accepted, refused, Said, refusal, report, count, stored, acceptance, written}
use Rattle.matrix.specs.Paper.Code.{Matrix, failing}
use Rattle.quantiser_levels.specs.Paper.Samples.{Setting, hard_word}
use Rattle.iterative_core.specs.Paper.Iterative.{iterative_of, iterative_word, iterative_levels}
use Rattle.session_record.specs.Paper.Record.{Record, working, decoded, failed}
use Rattle.session_asking.specs.Paper.Asked.{Held, lent, open_verdict, step_verdict}
use Rattle.session.specs.Paper.Steps.{Left, open_of, wrote_levels, step_of}

-- t steps after a call, each lent the received word w, the opening's levels o and what the last call left
unfoldable pub steps_of : Matrix → List ℕ → List ℤ → ℕ → Left → Left
steps_of H w o zero l = l
steps_of H w o (suc t) l = step_of H w o (steps_of H w o t l).held

-- "when every step is lent those levels unaltered too"
abbrev pub stepped_on : Matrix → Setting → List Float → Held → ℕ → Left
stepped_on H S xs h t = steps_of H (hard_word xs) (wrote_levels H (open_of H S xs h)) t (open_of H S xs h)

-- what the step after these asks
abbrev pub asks_on : Matrix → Setting → List Float → Held → ℕ → Verdict
asks_on H S xs h t = step_verdict H (hard_word xs) (wrote_levels H (open_of H S xs h)) (stepped_on H S xs h t).held

-- "the sequence ends with the same word, levels and answer as the whole call", within the round limit of accepted steps
pub record EndsAlike (H : Matrix) (S : Setting) (xs : List Float) (h : Held) : Type 0 where
  pub steps : ℕ
  pub within : steps ≤ S.limit
  pub accepts : (t : ℕ) → t < steps → asks_on H S xs h t ≡ accepted
  pub works : (t : ℕ) → t < steps → (stepped_on H S xs h t).held.rec.state ≡ working
  pub ends : (stepped_on H S xs h steps).held.rec.state ≡ working → ⊥
  pub says : (stepped_on H S xs h steps).said ≡ iterative_of H S xs (length h.word) (length h.levels)
  pub word : (stepped_on H S xs h steps).held.word ≡ written accepted (iterative_word H S xs) h.word
  pub levels : (stepped_on H S xs h steps).held.levels ≡ written accepted (iterative_levels H S xs) h.levels

-- for every accepted opening
abbrev pub SteppingIsWhole : Matrix → Setting → List Float → Held → Type 0
SteppingIsWhole H S xs h = open_verdict H S xs h ≡ accepted → EndsAlike H S xs h

-- a report with 0 for changed, any other answer as it is
abbrev pub except_changed : Said → Said
except_changed (refusal k x) = refusal k x
except_changed (report o k f c) = report o k f 0
except_changed (count x) = count x
except_changed (stored x) = stored x
except_changed acceptance = acceptance

-- whatever is lent as the opening's levels: record, word and levels after the step are the same, and so is the answer but for changed
pub record OpenedCounts (H : Matrix) (w : List ℕ) (h : Held) : Type 0 where
  pub held : (o o' : List ℤ) → length o ≡ length o' → (step_of H w o h).held ≡ (step_of H w o' h).held
  pub said : (o o' : List ℤ) → length o ≡ length o' → except_changed (step_of H w o h).said ≡ except_changed (step_of H w o' h).said

-- working: k below the limit and a failing check; decoded: none; failed: k at the limit and one
pub record Means (H : Matrix) (r : Record) (z : ℕ → ℕ) : Type 0 where
  pub if_working : r.state ≡ working → (r.k < r.limit) × (0 < failing H z)
  pub if_decoded : r.state ≡ decoded → failing H z ≡ 0
  pub if_failed : r.state ≡ failed → (r.k ≡ r.limit) × (0 < failing H z)

-- "A session whose record only its own calls change": the record goes from call to call,
-- the matrix and the buffers lent to a call may be any; `limit` is the round limit of the opening
pub data Ran (limit : ℕ) : Record → ℕ → Type 0 where
  opened : (H : Matrix) (S : Setting) (xs : List Float) (h : Held) → open_verdict H S xs h ≡ accepted → S.limit ≡ limit
      → Ran limit (open_of H S xs h).held.rec 0
  stepped : {r : Record} {t : ℕ} → Ran limit r t → (H : Matrix) (w word : List ℕ) (o levels : List ℤ) → step_verdict H w o (lent r word levels) ≡ accepted
      → Ran limit (step_of H w o (lent r word levels)).held.rec (suc t)
  step_refused : {r : Record} {t : ℕ} → Ran limit r t → (H : Matrix) (w word : List ℕ) (o levels : List ℤ) (k x : ℕ)
      → step_verdict H w o (lent r word levels) ≡ refused k x → Ran limit (step_of H w o (lent r word levels)).held.rec t
  open_refused : {r : Record} {t : ℕ} → Ran limit r t → (H : Matrix) (S : Setting) (xs : List Float) (word : List ℕ) (levels : List ℤ) (k x : ℕ)
      → open_verdict H S xs (lent r word levels) ≡ refused k x → Ran limit (open_of H S xs (lent r word levels)).held.rec t

-- "ends within its round limit of accepted steps": k counts them, and at the limit the record no longer works
pub record Within (limit : ℕ) (r : Record) (t : ℕ) : Type 0 where
  pub same_limit : r.limit ≡ limit
  pub counts : r.k ≡ t
  pub at_most : t ≤ limit
  pub if_working : r.state ≡ working → t < limit
  pub further : (H : Matrix) (w word : List ℕ) (o levels : List ℤ) → step_verdict H w o (lent r word levels) ≡ accepted → t < limit
