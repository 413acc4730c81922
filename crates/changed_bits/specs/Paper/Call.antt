-- The count of changed bits as a call. The count is document 02's, card 4; the call and what it refuses are this project's own.
--   most_bytes            == the bytes of the longest word
--   wrong_runs a b        == two runs of unlike lengths, or longer than any word
--   changed_verdict a b   == what is asked of two runs of bytes: refusal 7
--   changed_of a b        == what the call says: a report whose changed is the number of places at which they differ. All else is 0, and the
--                           outcome tells nothing here
--   Comparable a b       == the runs that are accepted, in statements
-- Assumes nothing.
use Rattle.std.specs.Prelude.{ℕ, ◌*◌, ◌≤◌, ◌≡◌, Bool, not, ◌||◌, List, eqb, ltb, length}
use Rattle.answers.specs.Paper.Answers.{Verdict, accepted, refuse_when, Said, report, after}
use Rattle.packed_word.specs.Paper.Packed.{bit_at, distance}

-- "from none to 128"
abbrev pub most_bytes : ℕ
most_bytes = 128

-- not "of equal length, from none to 128"
unfoldable pub wrong_runs : List ℕ → List ℕ → Bool
wrong_runs a b = not (eqb (length a) (length b)) || ltb most_bytes (length a)

-- such runs are refused by 7
unfoldable pub changed_verdict : List ℕ → List ℕ → Verdict
changed_verdict a b = refuse_when 7 (wrong_runs a b) accepted

-- "the number of places at which they differ"
unfoldable pub changed_of : List ℕ → List ℕ → Said
changed_of a b = after (changed_verdict a b) (report 0 0 0 (distance (8 * length a) (bit_at a) (bit_at b)))

-- "any two runs of bytes of equal length, from none to 128"
pub record Comparable (a b : List ℕ) : Type 0 where
  pub equal : length a ≡ length b
  pub most : length a ≤ most_bytes
