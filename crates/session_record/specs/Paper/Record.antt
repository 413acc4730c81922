-- The session record. (Document 01, "Rounds one at a time".)
--   Course            == what stays through a session: b and the round limit
--   Record            == state, b, round limit, k and the four sizes
--   course_in         == the part of a record that stays; a round moves k
--   empty .. failed   == the numbers of the record's states
--   record_for        == a record for a matrix, of a course that has come to round k
--   state_after       == the state in which a word with f failing checks leaves the record
--   outcome_in        == the outcome that an answer says of a state: 0 decoded, 1 failed, 2 working
-- Assumes nothing.
use Rattle.std.specs.Prelude.{ℕ, cond, eqb}
use Rattle.matrix.specs.Paper.Code.{Matrix}

-- "A session record is empty, working, decoded or failed"
abbrev pub empty : ℕ
empty = 0

abbrev pub working : ℕ
working = 1

abbrev pub decoded : ℕ
decoded = 2

abbrev pub failed : ℕ
failed = 3

-- what the opening sets and no round moves
pub record Course : Type 0 where
  pub bits : ℕ
  pub limit : ℕ

-- "with b, the round limit, k and the four sizes"
pub record Record : Type 0 where
  pub state : ℕ
  pub bits : ℕ
  pub limit : ℕ
  pub k : ℕ
  pub n : ℕ
  pub m : ℕ
  pub rho : ℕ
  pub gamma : ℕ

-- the part of a record that stays through a session
abbrev pub course_in : Record → Course
course_in r = record { bits = r.bits; limit = r.limit }

-- a record for a matrix, at round k
abbrev pub record_for : Matrix → ℕ → Course → ℕ → Record
record_for H state course k =
    record {
      state = state;
      bits = course.bits;
      limit = course.limit;
      k = k;
      n = H.n;
      m = H.m;
      rho = H.rho;
      gamma = H.gamma;
    }

-- steps 2 and 3: decoded where no check fails, else failed where k is the round limit, else working
abbrev pub state_after : ℕ → Course → ℕ → ℕ
state_after f course k = cond (eqb f 0) decoded (cond (eqb k course.limit) failed working)

-- "Opening and each step answer with the record's state"
abbrev pub outcome_in : ℕ → ℕ
outcome_in s = cond (eqb s decoded) 0 (cond (eqb s failed) 1 2)
