-- Laws of numbers chosen in ascending order.
--   chosen-long     == there are as many as the counts together
--   chosen-below    == each is below the bound
--   chosen-next     == one number more leaves the places before
--   chosen-new      == and stands at the next place, where it is chosen once
--   chosen-up       == numbers chosen at most once ascend
--   chosen-count    == a number stands among them as often as its count says
--   chosen-cong     == equal counts choose the same
--   chosen-again    == numbers that ascend are those chosen by how often each stands among them
--   joined-chosen   == a part for each number chosen: the parts by the places of the numbers
-- Assumes nothing.
use mathlib.Core.Path.{◌≡◌, refl, sym, ap, ap₂, ◌∙◌}
use mathlib.Core.List.{List, [], ◌∷◌, ◌++◌, append-nil}
use Prim.Native.Nat.{ℕ, zero, suc, ◌+◌, ◌-◌, ◌≤◌, ◌<◌}
use native.Mathlib.Nat.{add-zero, mul-one, not-suc-le-zero}
use native.Mathlib.Numerals.{add-one}
use native.Mathlib.Decide.{ℕ_discrete, dec_lt}
use native.Mathlib.Omega.{arith}
use lib.ListN.{length, replicate, length-replicate, get_or-replicate, get_or-append}
use lib.Seq.{get_or-append-add}
use Rattle.counting.specs.Paper.Sum.{sum_below, same}
use Rattle.counting.specs.Paper.Lists.{listed}
use Rattle.counting.specs.Paper.Joined.{joined, chosen}
use Rattle.counting.specs.Places.{at}
use Rattle.counting.proofs.Sums.{sum-cong, sum-zero, sum-append, sum-const, same_refl, same-ne}
use Rattle.counting.proofs.Joined.{length-joined, joined-cong}
use Rattle.counting.proofs.Writes.{listed-cong}
use Rattle.counting.proofs.Ascending.{ascending-lt}

-- there are as many as the counts together
pub chosen-long : (k : ℕ) (f : ℕ → ℕ) → length (chosen k f) ≡ sum_below k f
unfolding chosen
chosen-long k f = length-joined (λ c. replicate (f c) c) k ∙ sum-cong k (λ c l. length-replicate (f c) c)

-- equal counts choose the same
pub chosen-cong : (k : ℕ) (f g : ℕ → ℕ) → ((c : ℕ) → c < k → f c ≡ g c) → chosen k f ≡ chosen k g
unfolding chosen
chosen-cong k f g h = joined-cong k (λ c. replicate (f c) c) (λ c. replicate (g c) c) (λ c l. ap (λ (x : ℕ). replicate x c) (h c l))

-- ---- one number more

-- the numbers below one more
chosen-suc : (k : ℕ) (f : ℕ → ℕ) → chosen (suc k) f ≡ chosen k f ++ replicate (f k) k
unfolding chosen joined
chosen-suc k f = refl

-- the places before stay
pub chosen-next : (k : ℕ) (f : ℕ → ℕ) (q : ℕ) → q < sum_below k f → at (chosen (suc k) f) q ≡ at (chosen k f) q
chosen-next k f q l =
    ap (λ (x : List ℕ). at x q) (chosen-suc k f)
    ∙ get_or-append (chosen k f) (replicate (f k) k) 0 q (omega (arith, chosen-long k f))

-- the next places have the new number
chosen_more : (k : ℕ) (f : ℕ → ℕ) (q : ℕ) → q < f k → at (chosen (suc k) f) (sum_below k f + q) ≡ k
chosen_more k f q l =
    ap₂ (λ (x : List ℕ) (n : ℕ). at x (n + q)) (chosen-suc k f) (sym (chosen-long k f))
    ∙ get_or-append-add (chosen k f) (replicate (f k) k) q 0
    ∙ get_or-replicate (f k) q k 0 l

-- and the new one stands next, where it is chosen once
pub chosen-new : (k : ℕ) (f : ℕ → ℕ) → f k ≡ 1 → at (chosen (suc k) f) (sum_below k f) ≡ k
chosen-new k f e =
    ap (at (chosen (suc k) f)) (sym (add-zero (sum_below k f))) ∙ chosen_more k f 0 (omega arith)

-- each is below the bound
pub chosen-below : (k : ℕ) (f : ℕ → ℕ) (q : ℕ) → q < sum_below k f → at (chosen k f) q < k
unfolding sum_below
chosen-below zero f q l = absurd (not-suc-le-zero l)
chosen-below (suc k) f q l =
    elim (dec_lt q (sum_below k f)) [
      | yes m ↦ omega (arith, chosen-next k f q m, chosen-below k f q m)
      | no n ↦
          let e : sum_below k f + (q - sum_below k f) ≡ q = omega arith in
          omega (arith, ap (at (chosen (suc k) f)) e, chosen_more k f (q - sum_below k f) (omega arith))
    ]

-- numbers chosen at most once ascend
pub chosen-up : (k : ℕ) (f : ℕ → ℕ) → ((c : ℕ) → c < k → f c ≤ 1)
    → (q : ℕ) → suc q < sum_below k f → at (chosen k f) q < at (chosen k f) (suc q)
unfolding sum_below
chosen-up zero f h q l = absurd (not-suc-le-zero l)
chosen-up (suc k) f h q l =
    elim (dec_lt (suc q) (sum_below k f)) [
      | yes m ↦
          omega (arith, chosen-next k f q (omega arith), chosen-next k f (suc q) m, chosen-up k f (λ c b. h c (omega arith)) q m)
      | no n ↦
          let one : f k ≡ 1 = omega (arith, h k (omega arith)) in
          let e : sum_below k f ≡ suc q = omega arith in
          let m : q < sum_below k f = omega arith in
          omega (arith, chosen-next k f q m, chosen-below k f q m, ap (at (chosen (suc k) f)) e, chosen-new k f one)
    ]

-- ---- how often a number is chosen

-- among the numbers below one more it stands as often as before, and at the new places
count-suc : (k : ℕ) (f : ℕ → ℕ) (c : ℕ) → sum_below (sum_below (suc k) f) (λ q. same (at (chosen (suc k) f) q) c)
    ≡ sum_below (sum_below k f) (λ q. same (at (chosen k f) q) c) + sum_below (f k) (λ q. same k c)
unfolding sum_below
count-suc k f c =
    sum-append (sum_below k f) (f k) (λ q. same (at (chosen (suc k) f) q) c)
    ∙ ap₂ ◌+◌ (sum-cong (sum_below k f) (λ q l. ap (λ (x : ℕ). same x c) (chosen-next k f q l)))
    (sum-cong (f k) (λ q l. ap (λ (x : ℕ). same x c) (chosen_more k f q l)))

-- a number stands among them as often as its count says
pub chosen-count : (k : ℕ) (f : ℕ → ℕ) (c : ℕ) → c < k → sum_below (sum_below k f) (λ q. same (at (chosen k f) q) c) ≡ f c
chosen-count zero f c l = absurd (not-suc-le-zero l)
chosen-count (suc k) f c l =
    elim (ℕ_discrete k c) [
      | yes e ↦
          let none : sum_below (sum_below k f) (λ q. same (at (chosen k f) q) c) ≡ 0 =
          sum-zero (sum_below k f) (λ q b. same-ne (at (chosen k f) q) c (λ s. omega (arith, chosen-below k f q b))) in
          let all : sum_below (f k) (λ q. same k c) ≡ f k =
          sum-const (f k) (same k c) ∙ rw (e, same_refl c) (mul-one (f c)) in
          omega (arith, count-suc k f c, none, all, ap f e)
      | no ne ↦
          let new : sum_below (f k) (λ q. same k c) ≡ 0 = sum-zero (f k) (λ q b. same-ne k c ne) in
          omega (arith, count-suc k f c, new, chosen-count k f c (omega arith))
    ]

-- ---- numbers that ascend

-- none chosen
chosen_none : (k : ℕ) (f : ℕ → ℕ) → f k ≡ 0 → chosen (suc k) f ≡ chosen k f
chosen_none k f e = chosen-suc k f ∙ ap (λ (x : ℕ). chosen k f ++ replicate x k) e ∙ append-nil (chosen k f)

-- one chosen
chosen-one : (k : ℕ) (f : ℕ → ℕ) → f k ≡ 1 → chosen (suc k) f ≡ chosen k f ++ (k ∷ [])
chosen-one k f e = chosen-suc k f ∙ ap (λ (x : ℕ). chosen k f ++ replicate x k) e

-- numbers that ascend are those chosen by how often each stands among them
pub chosen-again : (k w : ℕ) (g : ℕ → ℕ) → ((q : ℕ) → q < w → g q < k) → ((q : ℕ) → suc q < w → g q < g (suc q))
    → chosen k (λ c. sum_below w (λ q. same (g q) c)) ≡ listed w g
unfolding chosen joined listed sum_below
chosen-again zero zero g low up = refl
chosen-again zero (suc w) g low up = absurd (not-suc-le-zero (low 0 (omega arith)))
chosen-again (suc k) zero g low up =
    chosen_none k (λ c. sum_below 0 (λ q. same (g q) c)) refl ∙ chosen-again k zero g (λ q l. absurd (not-suc-le-zero l)) up
chosen-again (suc k) (suc w) g low up =
    elim (ℕ_discrete (g w) k) [
      | yes e ↦
          let before : (q : ℕ) → q < w → g q < k = λ q l. omega (arith, ascending-lt g (suc w) up q w l (omega arith)) in
          let none : sum_below w (λ q. same (g q) k) ≡ 0 = sum-zero w (λ q l. same-ne (g q) k (λ s. omega (arith, before q l))) in
          let one : same (g w) k ≡ 1 = rw e (same_refl k) in
          let same-counts : (c : ℕ) → c < k → sum_below (suc w) (λ q. same (g q) c) ≡ sum_below w (λ q. same (g q) c) =
          λ c l. omega (arith, same-ne (g w) c (λ s. omega arith)) in
          chosen-one k (λ c. sum_below (suc w) (λ q. same (g q) c)) (omega (arith, none, one))
          ∙ ap₂ (λ (x : List ℕ) (y : ℕ). x ++ (y ∷ []))
          (chosen-cong k (λ c. sum_below (suc w) (λ q. same (g q) c)) (λ c. sum_below w (λ q. same (g q) c)) same-counts
          ∙ chosen-again k w g before (λ q l. up q (omega arith)))
          (sym e)
      | no ne ↦
          let last : g w < k = omega (arith, low w (omega arith)) in
          let all : (q : ℕ) → q < suc w → g q < k =
          λ q l. elim (ℕ_discrete q w) [ yes s ↦ omega (arith, ap g s) | no nq ↦ omega (arith, ascending-lt g (suc w) up q w (omega arith) (omega arith)) ] in
          chosen_none k (λ c. sum_below (suc w) (λ q. same (g q) c))
          (sum-zero (suc w) (λ q l. same-ne (g q) k (λ s. omega (arith, all q l))))
          ∙ chosen-again k (suc w) g all up
    ]

-- ---- a part for each number chosen

-- the parts by the places of the numbers
pub joined-chosen : {A : Type 0} (k : ℕ) (f : ℕ → ℕ) (x : ℕ → ℕ → A) → ((c : ℕ) → c < k → f c ≤ 1)
    → joined k (λ c. replicate (f c) (x c (sum_below c f))) ≡ listed (sum_below k f) (λ q. x (at (chosen k f) q) q)
unfolding joined listed sum_below
joined-chosen zero f x h = refl
joined-chosen {A} (suc k) f x h =
    let so = joined-chosen k f x (λ c l. h c (omega arith)) in
    let stay : listed (sum_below k f) (λ q. x (at (chosen k f) q) q) ≡ listed (sum_below k f) (λ q. x (at (chosen (suc k) f) q) q) =
    listed-cong (sum_below k f) (λ q. x (at (chosen k f) q) q) (λ q. x (at (chosen (suc k) f) q) q)
    (λ q l. ap (λ (y : ℕ). x y q) (sym (chosen-next k f q l))) in
    elim (ℕ_discrete (f k) 0) [
      | yes e ↦
          rw (e, add-zero (sum_below k f)) (append-nil _ ∙ so ∙ stay)
      | no ne ↦
          let e : f k ≡ 1 = omega (arith, h k (omega arith)) in
          rw (e, add-one (sum_below k f))
          (ap₂ (λ (s : List A) (y : A). s ++ (y ∷ [])) (so ∙ stay) (ap (λ (y : ℕ). x y (sum_below k f)) (sym (chosen-new k f e))))
    ]
