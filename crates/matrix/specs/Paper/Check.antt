-- The matrix check: refusals 1 to 5 in their order. (Document 01, "Refused for the input"; document 02, card 2.)
--   within lo x hi    == x lies from lo to hi
--   sizes_fit H       == the sizes are in range, and m × rho is no less than n × gamma
--   bad_entry H p     == entry p of the list is not below n, or not above the one before it in its row
--   bad_weight H j    == column j's weight lies outside gamma to 32
--   no_least H        == no column weighs gamma
--   overlapping H i   == row i shares two columns or more with a later row
--   list_of H         == refusals 3 to 5
--   check_of H        == what the check says
-- Assumes nothing.
use Rattle.std.specs.Prelude.{ℕ, ◌*◌, ◌-◌, ◌%◌, Bool, not, ◌&&◌, ◌||◌, ltb, leb, eqb, length, get_or}
use Rattle.counting.specs.Paper.Search.{any_below, first}
use Rattle.answers.specs.Paper.Answers.{Verdict, accepted, refuse_if, refuse_when, refuse_at}
use Rattle.matrix.specs.Paper.Code.{Matrix, weight, common}

-- x from lo to hi, both included
abbrev pub within : ℕ → ℕ → ℕ → Bool
within lo x hi = leb lo x && leb x hi

-- "Ranges: n 2 to 1,023; m 1 to 1,023; ρ 2 to 32; γ 1 to 32"; "m × ρ be no less than n × γ"
unfoldable pub sizes_fit : Matrix → Bool
sizes_fit H =
    within 2 H.n 1023
    && (within 1 H.m 1023 && (within 2 H.rho 32 && (within 1 H.gamma 32 && leb (H.n * H.gamma) (H.m * H.rho))))

-- "an entry not below n, or not above the one before it in its row"
unfoldable pub bad_entry : Matrix → ℕ → Bool
bad_entry H p =
    leb H.n (get_or H.list p 0) || (ltb 0 (p % H.rho) && leb (get_or H.list p 0) (get_or H.list (p - 1) 0))

-- "a column outside γ to 32"
unfoldable pub bad_weight : Matrix → ℕ → Bool
bad_weight H j = not (within H.gamma (weight H j) 32)

-- "no column weighs γ"
unfoldable pub no_least : Matrix → Bool
no_least H = not (any_below (λ j. eqb (weight H j) H.gamma) H.n)

-- "two rows share two columns or more", i being the lower row
unfoldable pub overlapping : Matrix → ℕ → Bool
overlapping H i = any_below (λ i'. ltb i i' && leb 2 (common H i i')) H.m

-- what the entries, the weights and the overlaps are refused for, each with its first place; "place n when no column weighs γ"
unfoldable pub list_of : Matrix → Verdict
list_of H =
    refuse_at 3 (first (bad_entry H) (length H.list)) (length H.list)
    (refuse_at 4 (first (bad_weight H) H.n) H.n
    (refuse_if (no_least H) 4 H.n
    (refuse_at 5 (first (overlapping H) H.m) H.m accepted)))

-- the matrix check
unfoldable pub check_of : Matrix → Verdict
check_of H =
    refuse_when 1 (not (sizes_fit H)) (refuse_when 2 (not (eqb (length H.list) (H.m * H.rho))) (list_of H))
