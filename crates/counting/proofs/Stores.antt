-- Laws of a run of stores (`sets` of lib.Seq).
--   sets-append   == a run of stores in two parts is one part after the other
-- Assumes nothing.
use mathlib.Core.Path.{◌≡◌}
use mathlib.Core.List.{List, [], ◌∷◌, ◌++◌}
use Prim.Native.Nat.{ℕ, suc, ◌+◌}
use native.Mathlib.Nat.{add-zero, add-suc, suc-add}
use lib.ListN.{length, set}
use lib.Seq.{sets}

module _ {A : Type 0} where
  -- a run of stores in two parts
  pub sets-append : (old : List A) (i : ℕ) (s t : List A) → sets old i (s ++ t) ≡ sets (sets old i s) (i + length s) t
  sets-append old i [] t = rw (add-zero i)
  sets-append old i (a ∷ s) t = rw (sets-append (set old i a) (suc i) s t, suc-add i (length s), add-suc i (length s))
