-- What the search among the rows of one part says, and the search among all.
--   meets_part H part i       == row i shares two columns or more with an earlier row of the part
--   stop_row H part           == the first row that does, else m
--   part_row H part i         == row i is one of the part's, and shares two columns or more with a later row
--   part_overlaps H part      == some row of the part shares two columns or more with a later row
--   RowsSeen H part w w' r    == r says whether some row of the part does, and w' has the bits for the part's rows before the row that stops the search
--   has_overlap H             == some row of the matrix shares two columns or more with a later row
-- Assumes nothing.
use Rattle.std.specs.Prelude.{◌≡◌, Bool, ◌&&◌, List, ℕ, ◌/◌, ltb, leb, eqb, length}
use Rattle.counting.specs.Paper.Search.{any_below, first}
use Rattle.matrix.specs.Paper.Code.{Matrix, common}
use Rattle.matrix.specs.Paper.Check.{overlapping}
use Rattle.matrix_meeting.specs.Marks.{MarksOf}

-- row i shares two columns or more with an earlier row of the part
unfoldable pub meets_part : Matrix → ℕ → ℕ → Bool
meets_part H part i = any_below (λ x. eqb (x / 256) part && leb 2 (common H x i)) i

-- the first row that shares two columns or more with an earlier row of the part, else m
unfoldable pub stop_row : Matrix → ℕ → ℕ
stop_row H part = first (meets_part H part) H.m

-- row i is one of the part's, and shares two columns or more with a later row
unfoldable pub part_row : Matrix → ℕ → ℕ → Bool
part_row H part i = eqb (i / 256) part && overlapping H i

-- some row of the part shares two columns or more with a later row
unfoldable pub part_overlaps : Matrix → ℕ → Bool
part_overlaps H part = any_below (part_row H part) H.m

-- the answer for the part, and the bits that are set then
pub record RowsSeen (H : Matrix) (part : ℕ) (w w' : List ℕ) (r : Bool) : Type 0 where
  pub answer : r ≡ part_overlaps H part
  pub long : length w' ≡ length w
  pub marks : MarksOf H part (stop_row H part) w'

-- some row of the matrix shares two columns or more with a later row: refusal 5 has a place below m
unfoldable pub has_overlap : Matrix → Bool
has_overlap H = ltb (first (overlapping H) H.m) H.m
