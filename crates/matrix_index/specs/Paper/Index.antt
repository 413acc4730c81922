-- The index of a matrix: the rows of each column, beside the list. (Document 02, card 1.)
--   column_start H j       == where the rows of column j begin: the ones in the columns before it
--   rows_of H j i          == the rows before row i that have column j, ascending
--   index_of H             == the index
--   index_size H           == how many numbers it is to have
--   own_verdict H x        == refusal 10 for a lent index
--   index_verdict H room   == what is asked before an index is built: 1 to 5, then 10
-- Assumes nothing.
use Rattle.std.specs.Prelude.{ℕ, zero, suc, ◌+◌, ◌*◌, not, List, [], ◌++◌, ltb, replicate}
use Rattle.counting.specs.Paper.Sum.{sum_below}
use Rattle.counting.specs.Paper.Lists.{listed}
use Rattle.counting.specs.Paper.Joined.{joined, same_list}
use Rattle.answers.specs.Paper.Answers.{Verdict, accepted, refuse_when, and_then}
use Rattle.matrix.specs.Paper.Code.{Matrix, has, weight}
use Rattle.matrix.specs.Paper.Check.{check_of}

-- the starting place of column j among the row numbers
unfoldable pub column_start : Matrix → ℕ → ℕ
column_start H j = sum_below j (weight H)

-- "the row numbers of each column in ascending order": row i stands where it has the column
unfoldable pub rows_of : Matrix → ℕ → ℕ → List ℕ
rows_of H j zero = []
rows_of H j (suc i) = rows_of H j i ++ replicate (has H i j) i

-- "n + 1 starting places from 0 to m × ρ, then the row numbers of each column in ascending order"
unfoldable pub index_of : Matrix → List ℕ
index_of H = listed (suc H.n) (column_start H) ++ joined H.n (λ j. rows_of H j H.m)

-- n + 1 places and m × ρ row numbers
unfoldable pub index_size : Matrix → ℕ
index_size H = suc H.n + H.m * H.rho

-- "an index that is not exactly the matrix's own"
unfoldable pub own_verdict : Matrix → List ℕ → Verdict
own_verdict H x = refuse_when 10 (not (same_list x (index_of H))) accepted

-- "or a buffer too short to build it in, comes right after 5"
unfoldable pub index_verdict : Matrix → ℕ → Verdict
index_verdict H room = and_then (check_of H) (refuse_when 10 (ltb room (index_size H)) accepted)
