-- Laws of an array that is written in two parts, one behind the other.
--   over-whole    == a list over one that is as long is that list
--   front_kept    == a front written over leaves the array as long as it was
--   both-written  == the first list over the front and the second over what is behind it are both over the array
-- Assumes nothing.
use mathlib.Core.Path.{◌≡◌, sym, ap, ◌∙◌}
use mathlib.Core.List.{List, ◌++◌, append_assoc, append-nil}
use Prim.Native.Nat.{ℕ, ◌+◌, ◌-◌, ◌≤◌}
use native.Mathlib.Omega.{arith}
use lib.ListN.{length, take, drop, length-append, length-drop, drop_of_length-le}
use lib.Seq.{take_all, take_at, drop_at, drop-drop}
use Rattle.counting.specs.Paper.Lists.{over}

module _ {A : Type 0} where
  -- a list over one that is as long
  pub over-whole : (a old : List A) → length a ≡ length old → over a old ≡ a
  unfolding over
  over-whole a old e = ap (λ (y : List A). a ++ y) (drop_of_length-le old {i = length a} (omega (arith, e))) ∙ append-nil a

  -- a front written over
  pub front_kept : (k : ℕ) (old front : List A) → k ≤ length old → length front ≡ k → length (front ++ drop k old) ≡ length old
  front_kept k old front h e = omega (arith, length-append front (drop k old), e, length-drop k old)

  -- both lists
  pub both-written : (a b : List A) (k : ℕ) → length a ≡ k → (old front back : List A) → front ≡ a
      → back ≡ over b (take (length (front ++ drop k old) - k) (drop k (front ++ drop k old)))
      → take k (front ++ drop k old) ++ (back ++ drop (length (front ++ drop k old) - k) (drop k (front ++ drop k old))) ≡ over (a ++ b) old
  unfolding over
  both-written a b k size old front back e d =
      let long : length front ≡ k = ap length e ∙ size in
      let behind : drop k (front ++ drop k old) ≡ drop k old = drop_at front (drop k old) k long in
      let all : length (drop k old) ≤ length (front ++ drop k old) - k = omega (arith, length-append front (drop k old), long) in
      ap (λ (y : List A). y ++ (back ++ drop (length (front ++ drop k old) - k) (drop k (front ++ drop k old)))) (take_at front (drop k old) k long)
      ∙ ap (λ (y : List A). front ++ (back ++ drop (length (front ++ drop k old) - k) y)) behind
      ∙ ap (λ (y : List A). front ++ (back ++ y)) (drop_of_length-le (drop k old) all)
      ∙ ap (λ (y : List A). front ++ y)
      (append-nil back ∙ d ∙ ap (λ (y : List A). over b (take (length (front ++ drop k old) - k) y)) behind
      ∙ ap (over b) (take_all (length (front ++ drop k old) - k) (drop k old) all))
      ∙ ap (λ (y : List A). y ++ (b ++ drop (length b) (drop k old))) e
      ∙ ap (λ (y : List A). a ++ (b ++ y)) (drop-drop (length b) k old)
      ∙ sym (append_assoc a b (drop (k + length b) old))
      ∙ ap (λ (i : ℕ). (a ++ b) ++ drop i old) (ap (λ (i : ℕ). i + length b) (sym size) ∙ sym (length-append a b))
