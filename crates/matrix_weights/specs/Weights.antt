-- What one pass over the list leaves: the first bad entry, and the weights of the columns.
--   entry_at l p          == entry p of the list l
--   list_at H p           == entry p of the matrix's list
--   Walked H v p          == p is the first bad entry, or the list's length; v counts the columns of the entries before p, in each of its cells
--   bad_in_row n l s k    == entry k of the row that begins at s is not below n, or not above the one before it in the row
--   RowAhead n l s r v    == a row of r entries begins at s; v counts the columns of the entries before it, with room for the row's
--   RowWalked n l s r v k == k is the row's first bad entry, or r; v counts the columns of the entries before it
--   out_weight g v j      == what v has for column j lies outside g to 32
--   least_weight g v j    == it is g
--   off_weights g v n     == how many of the first n columns lie outside
--   weights_fit g v n     == of the first n columns none lies outside, and one has g
-- Assumes nothing.
use Rattle.std.specs.Prelude.{◌≡◌, Bool, not, ◌&&◌, ◌||◌, List, ℕ, ◌+◌, ◌-◌, ◌≤◌, ◌<◌, eqb, ltb, leb, length, get_or}
use Rattle.counting.specs.Paper.Sum.{sum_below, flag}
use Rattle.counting.specs.Paper.Search.{any_below, first}
use Rattle.matrix.specs.Paper.Code.{Matrix}
use Rattle.matrix.specs.Paper.Check.{within, bad_entry}
use Rattle.matrix.specs.Tallies.{Tally}

-- entry p of the list
abbrev pub entry_at : List ℕ → ℕ → ℕ
entry_at list p = get_or list p 0

-- entry p of the matrix's list
abbrev pub list_at : Matrix → ℕ → ℕ
list_at H p = entry_at H.list p

-- p is the first bad entry, or the list's length, and v counts the columns of the entries before p
pub record Walked (H : Matrix) (v : List ℕ) (p : ℕ) : Type 0 where
  pub place : p ≡ first (bad_entry H) (length H.list)
  pub tallied : Tally (list_at H) p v

-- entry k of the row that begins at s is not below n, or not above the one before it in the row
unfoldable pub bad_in_row : ℕ → List ℕ → ℕ → ℕ → Bool
bad_in_row n list s k = leb n (entry_at list (s + k)) || (ltb 0 k && leb (entry_at list (s + k)) (entry_at list (s + k - 1)))

-- a row of rho entries begins at s, and v counts the columns of the entries before it, with room for the row's
pub record RowAhead (n : ℕ) (list : List ℕ) (s rho : ℕ) (v : List ℕ) : Type 0 where
  pub columns : n ≤ 1023
  pub some : 0 < rho
  pub inside : s + rho ≤ length list
  pub room : s + rho ≤ 65535
  pub tallied : Tally (entry_at list) s v

-- k is the row's first bad entry, or rho, and v counts the columns of the entries before it
pub record RowWalked (n : ℕ) (list : List ℕ) (s rho : ℕ) (v : List ℕ) (k : ℕ) : Type 0 where
  pub place : k ≡ first (bad_in_row n list s) rho
  pub tallied : Tally (entry_at list) (s + k) v

-- what v has for column j lies outside gamma to 32
unfoldable pub out_weight : ℕ → List ℕ → ℕ → Bool
out_weight gamma v j = not (within gamma (get_or v j 0) 32)

-- what v has for column j is gamma
unfoldable pub least_weight : ℕ → List ℕ → ℕ → Bool
least_weight gamma v j = eqb (get_or v j 0) gamma

-- how many of the first n columns lie outside
unfoldable pub off_weights : ℕ → List ℕ → ℕ → ℕ
off_weights gamma v n = sum_below n (λ j. flag (out_weight gamma v j))

-- none of the first n columns lies outside, and one has gamma
unfoldable pub weights_fit : ℕ → List ℕ → ℕ → Bool
weights_fit gamma v n = not (ltb (first (out_weight gamma v) n) n) && any_below (least_weight gamma v) n
