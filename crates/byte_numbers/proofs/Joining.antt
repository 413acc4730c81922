-- Laws of a buffer that is written part after part.
--   sets-none     == nothing is written yet
--   sets-next     == one part more, all parts being as long
--   sets_over     == stores from the front on overwrite the front
-- Assumes nothing.
use mathlib.Core.Path.{◌≡◌, refl, sym, ap, ◌∙◌}
use mathlib.Core.List.{List, ◌++◌}
use Prim.Native.Nat.{ℕ, ◌+◌, ◌*◌, ◌≤◌}
use native.Mathlib.Nat.{zero-add, mul_comm}
use native.Mathlib.Numerals.{add-one}
use native.Mathlib.Omega.{arith}
use lib.ListN.{length, drop}
use lib.Seq.{sets, sets-eq}
use Rattle.counting.specs.Paper.Joined.{joined}
use Rattle.counting.specs.Paper.Lists.{over}
use Rattle.counting.proofs.Sums.{sum-cong, sum-const}
use Rattle.counting.proofs.Joined.{length-joined}
use Rattle.counting.proofs.Stores.{sets-append}

module _ (f : ℕ → List ℕ) (old : List ℕ) (p : ℕ) where
  -- nothing is written yet
  pub sets-none : old ≡ sets old p (joined 0 f)
  unfolding joined
  sets-none = refl

  -- one part more, all parts being as long
  pub sets-next : (w : ℕ) → ((i : ℕ) → length (f i) ≡ w) → (k q : ℕ) → q ≡ p + w * k → (new next : List ℕ) → new ≡ sets old p (joined k f)
      → next ≡ sets new q (f k) → next ≡ sets old p (joined (k + 1) f)
  unfolding joined
  sets-next w each k q e new next now then =
      let long : length (joined k f) ≡ w * k =
      length-joined f k ∙ sum-cong k (λ i l. each i) ∙ sum-const k w ∙ mul_comm k w in
      rw (then, now, e, add-one k, sym long) (sym (sets-append old p (joined k f) (f k)))

-- stores from the front on overwrite the front
pub sets_over : (new old : List ℕ) → length new ≤ length old → sets old 0 new ≡ over new old
unfolding over
sets_over new old h = sets-eq new old 0 (omega arith) ∙ ap (λ (x : ℕ). new ++ drop x old) (zero-add (length new))
