-- Laws of loops in the form that a function's `using(..)` takes: one at the start, one for each turn, one after the end.
--   over_start                 == a loop that writes a buffer from its front has written nothing yet
--   over_step                  == storing the next value writes one place more
--   over_length                == the buffer stays as long as it was
--   over_value, over_rest      == the places written have their values, the others stay
--   over_fill, over_copy       == the front filled with one value, and copied from another list
--   sum_start, sum_step        == a sum of no term is 0, and one term more is added
--   none_step                  == a search has passed one place more
--   first_passed, first_found  == a search that passed every place, and one that has found its place
--   any_start                  == below 0 no place passes
--   any_passed, any_here       == `any_below` of a search that passed every place, and of one that has found a place
-- Assumes nothing.
use mathlib.Core.Path.{◌≡◌, refl, sym, ap, ◌∙◌}
use mathlib.Core.Bool.{Bool, true, false}
use mathlib.Core.List.{List, ◌++◌}
use Prim.Native.Nat.{ℕ, ◌+◌, ◌≤◌, ◌<◌}
use native.Mathlib.Numerals.{add-one}
use borrow.Author.Count.{below_more}
use native.Mathlib.Omega.{arith}
use lib.ListN.{length, get_or, set, take, drop, replicate, length-replicate, length-take, get_or-replicate}
use lib.Seq.{ext_get_or}
use Rattle.std.proofs.lemmas.List.{get_or-take}
use Rattle.counting.specs.Paper.Lists.{listed, over}
use Rattle.counting.specs.Paper.Sum.{sum_below}
use Rattle.counting.specs.Paper.Search.{any_below, first}
use Rattle.counting.proofs.Searches.{first-none, first-at, any_none, any_at}
use Rattle.counting.proofs.Writes.{length-listed, get_or-listed, over_none, over-long, over-step, over-at, over-rest}

-- ---- a loop that writes a buffer from its front

-- nothing is written yet
pub over_start : {A : Type 0} (f : ℕ → A) (old : List A) → old ≡ over (listed 0 f) old
over_start f old = sym (over_none f old)

-- the next value is stored
pub over_step : {A : Type 0} (k : ℕ) (f : ℕ → A) (old l : List A) (v : A) → l ≡ over (listed k f) old → v ≡ f k → k < length old
    → set l k v ≡ over (listed (k + 1) f) old
over_step k f old l v e w h = over-step k f old l e v h w

-- the buffer stays as long as it was
pub over_length : {A : Type 0} (k : ℕ) (f : ℕ → A) (old : List A) → k ≤ length old → length (over (listed k f) old) ≡ length old
over_length k f old h = over-long k f old (over (listed k f) old) refl h

-- the places written have their values
pub over_value : {A : Type 0} (k : ℕ) (f : ℕ → A) (old : List A) (i : ℕ) (d : A) → i < k → get_or (over (listed k f) old) i d ≡ f i
over_value k f old i d h = over-at k f old (over (listed k f) old) refl d i h

-- the others stay
pub over_rest : {A : Type 0} (k : ℕ) (f : ℕ → A) (old : List A) (i : ℕ) (d : A) → k ≤ i → get_or (over (listed k f) old) i d ≡ get_or old i d
over_rest k f old i d h = over-rest k f old (over (listed k f) old) refl d i h

-- ---- what `fill` and `copy_from_slice` write in a front

-- one value in each place
pub over_fill : {A : Type 0} (n : ℕ) (x : A) (old : List A) → replicate n x ++ drop n old ≡ over (listed n (λ _. x)) old
unfolding over
over_fill {A} n x old =
    rw (length-listed n (λ (_ : ℕ). x)) (ap (λ (l : List A). l ++ drop n old) (ext_get_or x (replicate n x) (listed n (λ _. x))
    (length-replicate n x ∙ sym (length-listed n (λ _. x)))
    (λ i h. get_or-replicate n i x x (omega (arith, length-replicate n x)) ∙ sym (get_or-listed n (λ _. x) i x (omega (arith, length-replicate n x))))))

-- the values of another list
pub over_copy : {A : Type 0} (n : ℕ) (d : A) (from old : List A) → n ≤ length from
    → take n from ++ drop n old ≡ over (listed n (λ k. get_or from k d)) old
unfolding over
over_copy {A} n d from old h =
    rw (length-listed n (λ (k : ℕ). get_or from k d)) (ap (λ (l : List A). l ++ drop n old) (ext_get_or d (take n from) (listed n (λ k. get_or from k d))
    (omega (arith, length-take n from, length-listed n (λ (k : ℕ). get_or from k d)))
    (λ i l. get_or-take n from i d (omega (arith, length-take n from)) ∙ sym (get_or-listed n (λ k. get_or from k d) i d (omega (arith, length-take n from))))))

-- ---- a loop that sums

-- nothing is summed yet
pub sum_start : (f : ℕ → ℕ) → sum_below 0 f ≡ 0
unfolding sum_below
sum_start f = refl

-- one term more
pub sum_step : (k : ℕ) (f : ℕ → ℕ) → sum_below (k + 1) f ≡ sum_below k f + f k
unfolding sum_below
sum_step k f = rw add-one refl

-- ---- a loop that searches

-- one place more is passed
pub none_step : (t : ℕ → Bool) (k : ℕ) → ((j : ℕ) → j < k → t j ≡ false) → t k ≡ false → (j : ℕ) → j < k + 1 → t j ≡ false
none_step t k h e = below_more (λ (j : ℕ). t j ≡ false) k h e

-- every place is passed
pub first_passed : (t : ℕ → Bool) (n : ℕ) → ((j : ℕ) → j < n → t j ≡ false) → first t n ≡ n
first_passed t n h = first-none t n h

-- the place is found
pub first_found : (t : ℕ → Bool) (n i : ℕ) → ((j : ℕ) → j < i → t j ≡ false) → t i ≡ true → i < n → first t n ≡ i
first_found t n i h e l = first-at t n i l h e

-- below 0 no place passes
pub any_start : (t : ℕ → Bool) → any_below t 0 ≡ false
unfolding any_below
any_start t = refl

-- every place is passed
pub any_passed : (t : ℕ → Bool) (n : ℕ) → ((j : ℕ) → j < n → t j ≡ false) → any_below t n ≡ false
any_passed t n h = any_none t n h

-- a place is found
pub any_here : (t : ℕ → Bool) (n i : ℕ) → t i ≡ true → i < n → any_below t n ≡ true
any_here t n i e l = any_at t n i l e
