-- Laws of a buffer that is lent in part.
--   sets-part     == a part of the buffer that is lent and comes back overwritten is a run of stores
--   part-long     == a part that is lent has the bytes from its start to its end
-- Assumes nothing.
use mathlib.Core.Path.{◌≡◌, sym, ap, ◌∙◌}
use mathlib.Core.List.{List, ◌++◌, append_assoc}
use Prim.Native.Nat.{ℕ, ◌+◌, ◌-◌, ◌≤◌}
use native.Mathlib.Omega.{arith}
use lib.ListN.{length, take, drop, length-drop}
use lib.Seq.{sets, sets-eq, length-take-le, drop-drop}

-- a part of the buffer that is lent and comes back overwritten is a run of stores
pub sets-part : (xs ys : List ℕ) (a k : ℕ) → k ≡ length ys → a + length ys ≤ length xs → take a xs ++ (ys ++ drop k (drop a xs)) ≡ sets xs a ys
sets-part xs ys a k e h =
    sym (append_assoc (take a xs) ys (drop k (drop a xs)))
    ∙ ap (λ (r : List ℕ). take a xs ++ ys ++ r) (drop-drop k a xs ∙ ap (λ (x : ℕ). drop (a + x) xs) e)
    ∙ sym (sets-eq ys xs a h)

-- a part that is lent has the bytes from its start to its end
pub part-long : (xs : List ℕ) (a k : ℕ) → a + k ≤ length xs → length (take (a + k - a) (drop a xs)) ≡ k
part-long xs a k h = length-take-le (a + k - a) (drop a xs) (omega (arith, length-drop a xs)) ∙ omega arith
