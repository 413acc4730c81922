-- A session record as it crosses the exported functions: eight numbers.
--   record_cells        == how many they are
--   record_in c         == the record that so many cells are; a state's number that is none's is taken as empty
--   cells_of r          == the cells of a record
--   written_by s n o    == what an answer s leaves in the cells o: n where it is a report, else o
-- Assumes nothing.
use Rattle.std.specs.Prelude.{ℕ, List, [], ◌∷◌, get_or}
use Rattle.counting.specs.Paper.Lists.{over}
use Rattle.answers.specs.Paper.Answers.{Said, refusal, report, count, stored, acceptance}
use Rattle.session_record.specs.Paper.Record.{Record}
use Rattle.session_record.specs.Paper.Sessions.{known_state}

-- one cell for each number of a record
abbrev pub record_cells : ℕ
record_cells = 8

-- state, b, round limit, k, n, m, rho, gamma
abbrev pub record_in : List ℕ → Record
record_in c =
    record {
      state = known_state (get_or c 0 0);
      bits = get_or c 1 0;
      limit = get_or c 2 0;
      k = get_or c 3 0;
      n = get_or c 4 0;
      m = get_or c 5 0;
      rho = get_or c 6 0;
      gamma = get_or c 7 0;
    }

abbrev pub cells_of : Record → List ℕ
cells_of r = r.state ∷ r.bits ∷ r.limit ∷ r.k ∷ r.n ∷ r.m ∷ r.rho ∷ r.gamma ∷ []

-- a refused call keeps the cells as they are
abbrev pub written_by : Said → List ℕ → List ℕ → List ℕ
written_by (report o r f c) new old = over new old
written_by (refusal k x) new old = old
written_by (count k) new old = old
written_by (stored k) new old = old
written_by acceptance new old = old
