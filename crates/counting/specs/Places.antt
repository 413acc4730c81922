-- Lists of numbers read by their places.
--   at l                 == the list l as a function of the place, 0 past its end
--   among l from count j == how often j stands among count numbers of l from a place on
-- Assumes nothing.
use Rattle.std.specs.Prelude.{ℕ, ◌+◌, List, get_or}
use Rattle.counting.specs.Paper.Sum.{sum_below, same}

-- a list read by its places
abbrev pub at : List ℕ → ℕ → ℕ
at l j = get_or l j 0

-- a number counted in a part of a list
unfoldable pub among : List ℕ → ℕ → ℕ → ℕ → ℕ
among l from count j = sum_below count (λ k. same (at l (from + k)) j)
