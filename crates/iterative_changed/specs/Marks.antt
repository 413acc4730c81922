-- Each place's bit at opening in one array, with a mark where no bit counts: what a running decoder keeps for the count of changed bits.
--   mark_of r z        == the bit z where the level r is other than 0, else 2, which is no bit
--   marked_by o z      == the marks of the levels o and the bits z
--   turned_at m z j    == 1 where mark j is the other bit than z has there, else 0
--   turned_below n m z == how many of the marks below n are the other bit
-- Assumes nothing.
use Rattle.std.specs.Prelude.{ℕ, ◌-◌, cond, List, ℤ}
use Rattle.counting.specs.Paper.Sum.{sum_below, same}
use Rattle.iterative_changed.specs.Paper.Changed.{decided, level_at}

-- the bit where it counts, else 2
unfoldable pub mark_of : ℤ → ℕ → ℕ
mark_of r z = cond (decided r) z 2

-- place by place
abbrev pub marked_by : List ℤ → (ℕ → ℕ) → ℕ → ℕ
marked_by o z j = mark_of (level_at o j) (z j)

-- whether a mark is the other bit
abbrev pub turned_at : (ℕ → ℕ) → (ℕ → ℕ) → ℕ → ℕ
turned_at m z j = same (m j) (1 - z j)

-- how many are
unfoldable pub turned_below : ℕ → (ℕ → ℕ) → (ℕ → ℕ) → ℕ
turned_below n m z = sum_below n (turned_at m z)
