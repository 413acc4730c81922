-- What a search through a list answers: the first place that passes a test, if there is one.
--   first-position    == the library's answer is the first place, which is the list's length where there is none
--   place-or-length   == that place, by `unwrap_or`, is the number that the definition gives
-- Assumes nothing.
use mathlib.Core.Path.{◌≡◌, sym}
use mathlib.Core.Bool.{Bool, true, false}
use mathlib.Core.List.{List}
use Prim.Native.Nat.{ℕ, ◌<◌}
use native.Mathlib.Omega.{arith}
use lib.ListN.{length, get_or}
use Rattle.std.specs.List.{AllWithin, HoldsAt}
use Rattle.std.specs.Option.{MatchOption, unwrap_or}
use Rattle.std.proofs.Common.{Option, Some, None}
use Rattle.counting.specs.Paper.Search.{first}
use Rattle.counting.proofs.Searches.{first-none, first-at}

module _ {X : Type 0} (p : X → Bool) (xs : List X) (d : X) where
  -- the library's answer is the first place
  pub first-position : (r : Option ℕ)
      → MatchOption r (AllWithin (λ x. p x ≡ false) xs 0 (length xs)) (λ i. (i < length xs) × HoldsAt (λ x. p x ≡ true) xs i × AllWithin (λ x. p x ≡ false) xs 0 i)
      → MatchOption r (first (λ j. p (get_or xs j d)) (length xs) ≡ length xs) (λ i. (i ≡ first (λ j. p (get_or xs j d)) (length xs)) × (i < length xs))
  first-position None h = first-none (λ j. p (get_or xs j d)) (length xs) (λ i l. h i d (omega arith) l)
  first-position (Some i) h = (sym (first-at (λ j. p (get_or xs j d)) (length xs) i h.0 (λ j l. h.2 j d (omega arith) l) (h.1 d)), h.0)

-- the place that was found, or the length where there is none
pub place-or-length : (f n : ℕ) (r : Option ℕ) → MatchOption r (f ≡ n) (λ i. (i ≡ f) × (i < n)) → unwrap_or r n ≡ f
place-or-length f n None e = sym e
place-or-length f n (Some i) e = e.0
