-- Lists by their places, and lists overwritten at the front.
--   listed k f     == the list f 0, f 1, .. f (k - 1)
--   over new old   == old with its first places overwritten by new
-- Assumes nothing.
use Rattle.std.specs.Prelude.{ℕ, zero, suc, List, [], ◌∷◌, ◌++◌, length, drop}

module _ {A : Type 0} where
  -- the first k values of f as a list
  unfoldable pub listed : ℕ → (ℕ → A) → List A
  listed zero f = []
  listed (suc k) f = listed k f ++ (f k ∷ [])

  -- a buffer after its first places are written: the rest stays
  unfoldable pub over : List A → List A → List A
  over new old = new ++ drop (length new) old
