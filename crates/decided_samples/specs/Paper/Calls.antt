-- What each call that starts from samples says where all places count: document 01's "changed".
--   report_all H r e      == the answer at the end e, r being the received word
--   says_all H ..         == what is said of round k of a session
--   open_all H S xs h     == opening a session
--   step_asked_all H w h  == what a step asks that is lent no levels of the opening
--   step_all H w h        == that step
-- Words, levels and records are those of the calls as they are. Assumes nothing.
use Rattle.std.specs.Prelude.{ℕ, suc, List, Float, length}
use Rattle.answers.specs.Paper.Answers.{Verdict, accepted, refuse_when, and_then, Said, report, outcome_by}
use Rattle.packed_word.specs.Paper.Packed.{bit_at, distance}
use Rattle.matrix.specs.Paper.Code.{Matrix, failing}
use Rattle.matrix.specs.Paper.Check.{check_of}
use Rattle.syndrome.specs.Paper.Failing.{word_verdict}
use Rattle.quantiser_levels.specs.Paper.Samples.{Setting, hard_bit}
use Rattle.iterative_rounds.specs.Paper.Rounds.{End}
use Rattle.iterative_core.specs.Paper.Iterative.{start_of}
use Rattle.session_record.specs.Paper.Record.{Course, course_in, state_after, outcome_in}
use Rattle.session_asking.specs.Paper.Asked.{Held, open_verdict, unusable, ended, other_sizes, beyond}
use Rattle.session.specs.Paper.Steps.{Left, course_for, held_at, leave, stepped_state}

-- "changed (positions at which the word handed back differs from the received word, that is from the hard bits where samples were lent)"
abbrev pub report_all : Matrix → (ℕ → ℕ) → End → Said
report_all H r e =
    report (outcome_by (failing H e.last.z)) e.k (failing H e.last.z) (distance H.n e.last.z r)

-- "rounds k, failing and changed, counted on the word they leave"
abbrev pub says_all : Matrix → Course → ℕ → (ℕ → ℕ) → (ℕ → ℕ) → Said
says_all H course k r z = report (outcome_in (state_after (failing H z) course k)) k (failing H z) (distance H.n z r)

-- opening a session
abbrev pub open_all : Matrix → Setting → List Float → Held → Left
open_all H S xs h =
    leave (open_verdict H S xs h)
    (record { said = says_all H (course_for S) 0 (hard_bit xs) (start_of S xs).z; held = held_at H (course_for S) 0 (start_of S xs) h })
    h

-- what a step asks
abbrev pub step_asked_all : Matrix → List ℕ → Held → Verdict
step_asked_all H w h =
    refuse_when 20 (unusable h.rec)
    (refuse_when 21 (ended h.rec)
    (and_then (check_of H)
    (refuse_when 22 (other_sizes H h.rec)
    (and_then (word_verdict H.n w (length h.word) (length h.levels))
    (refuse_when 23 (beyond H h.rec h) accepted)))))

-- a step
abbrev pub step_all : Matrix → List ℕ → Held → Left
step_all H w h =
    leave (step_asked_all H w h)
    (record {
      said = says_all H (course_in h.rec) (suc h.rec.k) (bit_at w) (stepped_state H h).z;
      held = held_at H (course_in h.rec) (suc h.rec.k) (stepped_state H h) h;
    })
    h
