-- The program's session in document 01's terms.
--   state_number, course_of, record_of   == of a state, of a course, of a session
--   known_state x                        == x, or that of an empty record where x is no state's number
-- Assumes nothing.
use Rattle.std.specs.Prelude.{ℕ, cond, ltb}
use Rattle.session_record.specs.Paper.Record.{Course, Record, empty, working, decoded, failed}
use Rattle.session_record.specs.declared.Course as declared
use Rattle.session_record.specs.declared.Session.{Session}
use Rattle.session_record.specs.declared.State.{State}
use Rattle.session_record.specs.declared.State.TheVariants.{Empty, Working, Decoded, Failed}

abbrev pub state_number : State → ℕ
state_number Empty = empty
state_number Working = working
state_number Decoded = decoded
state_number Failed = failed

-- a number that is no state's is taken as empty
abbrev pub known_state : ℕ → ℕ
known_state x = cond (ltb x 4) x empty

abbrev pub course_of : declared.Course → Course
course_of c = record { bits = c.bits; limit = c.limit }

abbrev pub record_of : Session → Record
record_of s =
    record {
      state = state_number s.state;
      bits = s.bits;
      limit = s.limit;
      k = s.k;
      n = s.n;
      m = s.m;
      rho = s.rho;
      gamma = s.gamma;
    }
