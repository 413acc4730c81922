-- Opening and one step of a session. (Document 01, "Rounds one at a time"; document 02, card 6.)
--   Left                    == what a call says, and what it leaves
--   course_for S            == what a setting has stay through a session
--   says_at, held_at        == what is said of round k, by the places that count, and the record and the buffers after it
--   leave v new old         == what a call says and leaves by its verdict: new, or a refusal with old kept
--   opened_from .. s r h    == what an accepted opening says and leaves that starts at the state s
--   wrote_levels H l        == the levels that an opening wrote
--   opened_left, open_of    == what an accepted opening on samples says and leaves, and any opening on samples
--   state_in word levels    == the state of a round that a packed word and levels stand for
--   stepped_state H h       == the state to which a step brings the word and the levels
--   stepped_left, step_of   == what an accepted step says and leaves, and any step
-- Assumes nothing.
use Rattle.std.specs.Prelude.{ℕ, suc, List, ℤ, Float, Bool, take}
use Rattle.counting.specs.Paper.Lists.{listed}
use Rattle.answers.specs.Paper.Answers.{Verdict, accepted, refused, Said, refusal, report, written}
use Rattle.packed_word.specs.Paper.Packed.{bit_at, pack}
use Rattle.matrix.specs.Paper.Code.{Matrix, failing}
use Rattle.quantiser_levels.specs.Paper.Samples.{Setting, largest, hard_bit}
use Rattle.iterative_rounds.specs.Paper.Rounds.{State, state, round_of}
use Rattle.iterative_changed.specs.Paper.Changed.{decided_in, changed, level_at}
use Rattle.iterative_core.specs.Paper.Iterative.{start_of}
use Rattle.session_record.specs.Paper.Record.{Course, course_in, record_for, state_after, outcome_in}
use Rattle.session_asking.specs.Paper.Asked.{Held, open_verdict, step_verdict}

-- what a call answers, and what it leaves
pub record Left : Type 0 where
  pub said : Said
  pub held : Held

-- the width and the round limit of a setting stay through a session
abbrev pub course_for : Setting → Course
course_for S = record { bits = S.bits; limit = S.limit }

-- "rounds k, failing and changed, counted on the word they leave"; changed by the places that count
abbrev pub says_at : Matrix → Course → ℕ → (ℕ → Bool) → (ℕ → ℕ) → (ℕ → ℕ) → Said
says_at H course k counts r z = report (outcome_in (state_after (failing H z) course k)) k (failing H z) (changed H.n counts z r)

-- the buffers and the record after round k, the state being s; cells beyond the needed ones stay
abbrev pub held_at : Matrix → Course → ℕ → State → Held → Held
held_at H course k s h =
    record {
      rec = record_for H (state_after (failing H s.z) course k) course k;
      word = written accepted (pack H.n s.z) h.word;
      levels = written accepted (listed H.n s.R) h.levels;
    }

-- "a refused step or opening leaves it", and writes to no buffer
abbrev pub leave : Verdict → Left → Held → Left
leave accepted new old = new
leave (refused k x) new old = record { said = refusal k x; held = old }

-- "Opening does steps 1 to 3", "and replaces any record": here from any start state s, r being the received word
abbrev pub opened_from : Matrix → Course → (ℕ → Bool) → State → (ℕ → ℕ) → Held → Left
opened_from H course counts s r h = record { said = says_at H course 0 counts r s.z; held = held_at H course 0 s h }

-- on samples it starts with their hard bits and levels, the hard bits are the received word, and the places with a level count
abbrev pub opened_left : Matrix → Setting → List Float → Held → Left
opened_left H S xs h = opened_from H (course_for S) (decided_in (start_of S xs).R) (start_of S xs) (hard_bit xs) h

-- any opening on samples, by what it asks
unfoldable pub open_of : Matrix → Setting → List Float → Held → Left
open_of H S xs h = leave (open_verdict H S xs h) (opened_left H S xs h) h

-- "the levels the opening wrote": the first n of its buffer
abbrev pub wrote_levels : Matrix → Left → List ℤ
wrote_levels H l = take H.n l.held.levels

-- the state of a round that a packed word and levels stand for
abbrev pub state_in : List ℕ → List ℤ → State
state_in word levels = state (bit_at word) (level_at levels)

-- the state to which steps 4 to 6 bring the word and the levels lent
abbrev pub stepped_state : Matrix → Held → State
stepped_state H h = round_of H (largest h.rec.bits) (state_in h.word h.levels)

-- "A step does 4 to 6 and then 2 and 3, on the matrix, word and levels lent with it"; "also lent the levels the opening wrote", o, and the
-- places count that have a level there
abbrev pub stepped_left : Matrix → List ℕ → List ℤ → Held → Left
stepped_left H w o h =
    record {
      said = says_at H (course_in h.rec) (suc h.rec.k) (decided_in (level_at o)) (bit_at w) (stepped_state H h).z;
      held = held_at H (course_in h.rec) (suc h.rec.k) (stepped_state H h) h;
    }

-- any step, by what it asks
unfoldable pub step_of : Matrix → List ℕ → List ℤ → Held → Left
step_of H w o h = leave (step_verdict H w o h) (stepped_left H w o h) h
