-- The matrix check for columns of equal weight: document 01's refusals 1 to 5 to the letter, before card 2 let columns be unlike.
--   sizes_equal H    == the sizes are in range, and m × rho = n × gamma
--   off_weight H j   == column j's weight is not gamma
--   list_equal H     == refusals 3 to 5
--   check_equal H    == what that check says
-- proofs/EqualWeights.antt shows that what it accepts is accepted still, and which of the accepted ones it accepts. Assumes nothing.
use Rattle.std.specs.Prelude.{ℕ, ◌*◌, Bool, not, ◌&&◌, eqb, length}
use Rattle.counting.specs.Paper.Search.{first}
use Rattle.answers.specs.Paper.Answers.{Verdict, accepted, refuse_when, refuse_at}
use Rattle.matrix.specs.Paper.Code.{Matrix, weight}
use Rattle.matrix.specs.Paper.Check.{within, bad_entry, overlapping}

-- "Ranges: n 2 to 1,023; m 1 to 1,023; ρ 2 to 32; γ 1 to 32; m × ρ = n × γ"
unfoldable pub sizes_equal : Matrix → Bool
sizes_equal H =
    within 2 H.n 1023
    && (within 1 H.m 1023 && (within 2 H.rho 32 && (within 1 H.gamma 32 && eqb (H.m * H.rho) (H.n * H.gamma))))

-- "a column's weight is not γ"
unfoldable pub off_weight : Matrix → ℕ → Bool
off_weight H j = not (eqb (weight H j) H.gamma)

-- refusals 3 to 5, each with its first place
unfoldable pub list_equal : Matrix → Verdict
list_equal H =
    refuse_at 3 (first (bad_entry H) (length H.list)) (length H.list)
    (refuse_at 4 (first (off_weight H) H.n) H.n
    (refuse_at 5 (first (overlapping H) H.m) H.m accepted))

-- the check of a matrix of equal columns
unfoldable pub check_equal : Matrix → Verdict
check_equal H =
    refuse_when 1 (not (sizes_equal H)) (refuse_when 2 (not (eqb (length H.list) (H.m * H.rho))) (list_equal H))
