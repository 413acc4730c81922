-- Laws of the counts: each loop's step, and that no entry is bad exactly where the two counts of descents agree and every entry is below n.
--   bit, byte-bit                             == a test as the code adds it, as a remainder by 2
--   count-step                                == one test more in a count
--   count_most                                == a count is at most the number of places counted
--   not_above                                 == the test that `descent` counts
--   descent-le, row-descent-le, not-below-le  == what is counted at a place is at most 1
--   first-counts, first-row-counts            == the first entry counts, and so does the first row
--   row-begins                                == the entry that begins a later row stands in the list, and not first
--   rows_small                                == there are no more rows than the largest list has entries
--   laid, not-empty                           == the list of a matrix in range is laid in rows, and has an entry
--   order-says                                == the counts agree and none is beyond n exactly where no entry is bad
--   in-order-clear                            == where the answer is yes no entry is bad
-- Assumes nothing.
use mathlib.Core.Path.{◌≡◌, refl, sym, ap, ◌∙◌}
use mathlib.Core.Bool.{Bool, true, false, not, ◌&&◌}
use mathlib.Core.List.{List}
use mathlib.Core.Logic.{inl, inr}
use Prim.Native.Nat.{ℕ, ◌+◌, ◌*◌, ◌-◌, ◌/◌, ◌%◌, ◌≤◌, ◌<◌}
use native.Mathlib.Nat.{div-add-mod', div-lt_iff_lt-mul, mod-lt, mul-le-mul, zero-mul, add-zero}
use native.Mathlib.Numerals.{add-one}
use native.Mathlib.Omega.{arith}
use borrow.Author.Tests.{le-leb, lt-leb, eq-eqb, eqb-true, not-true}
use lib.Arith.{digits_lt, digits_mod}
use lib.Dec.{leb, eqb}
use lib.ListN.{length, get_or}
use mir.Val.{bool_byte}
use Rattle.counting.specs.Paper.Search.{any_below}
use Rattle.counting.specs.Paper.Sum.{sum_below, flag}
use Rattle.counting.proofs.Decisions.{test-fails}
use Rattle.counting.proofs.Searches.{never, cases, and_left, and_right, and_both, any_none, any-clear}
use Rattle.counting.proofs.Sums.{byte_flag, sum-cong, sum-zero, sum_bound, sum-add, sum-append, sum-flat, sum-term}
use Rattle.matrix.specs.Paper.Code.{Matrix}
use Rattle.matrix.specs.Paper.Check.{bad_entry}
use Rattle.matrix.specs.Paper.PlainCheck.{BadEntry, Never}
use Rattle.matrix.specs.Ordered.{Sized}
use Rattle.matrix.proofs.Ordered.{few}
use Rattle.matrix.proofs.PlainCheck.{entries, entry-clear}
use Rattle.matrix_order.specs.Order.{Laid, descent, row_descent, not_below}

-- ---- tests as numbers

-- a test as a number is at most 1
flag-le : (t : Bool) → flag t ≤ 1
flag-le true = omega arith
flag-le false = omega arith

-- a test as a number, kept closed so that `byte-bit` rewrites once
unfoldable pub bit : Bool → ℕ
bit true = 1
bit false = 0

-- a test as the code adds it, as a remainder: so omega reads that it is at most 1, whichever test it is
pub byte-bit : (t : Bool) → bool_byte t ≡ bit t % 2
unfolding bit
byte-bit true = refl
byte-bit false = refl

-- one test more in a count
pub count-step : (f : ℕ → ℕ) (t : Bool) (k c : ℕ) → f k ≡ flag t → c ≡ sum_below k f → c + bool_byte t ≡ sum_below (k + 1) f
unfolding sum_below
count-step f t k c h e = rw (add-one k, byte_flag t) (omega (arith, h, e))

-- a count is at most the number of places counted
pub count_most : (f : ℕ → ℕ) → ((i : ℕ) → f i ≤ 1) → (k : ℕ) → sum_below k f ≤ k
count_most f h k = omega (arith, sum_bound k 1 {f = f} (λ i l. h i))

-- the test that `descent` counts
abbrev pub not_above : List ℕ → ℕ → Bool
not_above l p = leb (get_or l p 0) (get_or l (p - 1) 0)

-- what is counted at a place is at most 1
pub descent-le : (l : List ℕ) (p : ℕ) → descent l p ≤ 1
unfolding descent
descent-le l p = flag-le (not_above l p)

-- the same at the beginning of a row
pub row-descent-le : (l : List ℕ) (rho i : ℕ) → row_descent l rho i ≤ 1
unfolding row_descent
row-descent-le l rho i = descent-le l (i * rho)

-- and of the entries that are not below n
pub not-below-le : (l : List ℕ) (n p : ℕ) → not_below l n p ≤ 1
unfolding not_below
not-below-le l n p = flag-le (leb n (get_or l p 0))

-- a sum of one term
one-term : (f : ℕ → ℕ) → sum_below 1 f ≡ f 0
unfolding sum_below
one-term f = omega arith

-- the first entry counts
pub first-counts : (l : List ℕ) → 1 ≡ sum_below 1 (descent l)
unfolding descent
first-counts l = sym (one-term (descent l) ∙ ap flag (le-leb (get_or l 0 0) (get_or l 0 0) (omega arith)))

-- and so does the first row
pub first-row-counts : (l : List ℕ) (rho : ℕ) → 1 ≡ sum_below 1 (row_descent l rho)
unfolding row_descent
first-row-counts l rho =
    first-counts l ∙ one-term (descent l) ∙ ap (descent l) (sym (zero-mul rho)) ∙ sym (one-term (row_descent l rho))

-- where `descent` is 0 the entry is above the one before it, and only there
zero-climbs : (l : List ℕ) (p : ℕ) → descent l p ≡ 0 → get_or l p 0 ≤ get_or l (p - 1) 0 → ⊥
unfolding descent
zero-climbs l p e h = omega (arith, e, ap flag (le-leb (get_or l p 0) (get_or l (p - 1) 0) h))

climbs-zero : (l : List ℕ) (p : ℕ) → (get_or l p 0 ≤ get_or l (p - 1) 0 → ⊥) → descent l p ≡ 0
unfolding descent
climbs-zero l p h = ap flag (lt-leb (get_or l p 0) (get_or l (p - 1) 0) (omega (arith, h)))

-- where `not_below` is 0 the entry is below n, and only there
zero-below : (l : List ℕ) (n p : ℕ) → not_below l n p ≡ 0 → n ≤ get_or l p 0 → ⊥
unfolding not_below
zero-below l n p e h = omega (arith, e, ap flag (le-leb n (get_or l p 0) h))

below-zero : (l : List ℕ) (n p : ℕ) → (n ≤ get_or l p 0 → ⊥) → not_below l n p ≡ 0
unfolding not_below
below-zero l n p h = ap flag (lt-leb n (get_or l p 0) (omega (arith, h)))

-- ---- rows

-- the entry that begins a later row stands in the list, and not first
pub row-begins : {l : List ℕ} {m rho : ℕ} → Laid l m rho → (i : ℕ) → 1 ≤ i → i < m → (1 ≤ i * rho) × (i * rho < length l)
row-begins {l} {m} {rho} d i h b =
    (mul-le-mul {n₁ = 1} {m₁ = 1} {n₂ = i} {m₂ = rho} h d.wide, omega (arith, d.whole, digits_lt {q = i} {m = m} {r = 0} {c = rho} b d.wide))

-- there are no more rows than the largest list has entries
pub rows-small : {l : List ℕ} {m rho : ℕ} → Laid l m rho → m ≤ 32736
rows-small {l} {m} {rho} d = omega (arith, d.few, d.whole, mul-le-mul {n₁ = m} {m₁ = 1} {n₂ = m} {m₂ = rho} (omega arith) d.wide)

-- the descents inside row i: at each entry but the one that begins it
unfoldable inside : List ℕ → ℕ → ℕ → ℕ
inside l rho i = sum_below (rho - 1) (λ k. descent l (i * rho + (1 + k)))

-- the descents of a row are the one at its beginning and those inside
row-split : (l : List ℕ) (rho i : ℕ) → 1 ≤ rho → sum_below rho (λ k. descent l (i * rho + k)) ≡ row_descent l rho i + inside l rho i
unfolding inside row_descent
row-split l rho i h =
    let f : ℕ → ℕ = λ k. descent l (i * rho + k) in
    let e : rho ≡ 1 + (rho - 1) = omega arith in
    ap (λ (x : ℕ). sum_below x f) e
    ∙ sum-append 1 (rho - 1) f
    ∙ ap (λ (x : ℕ). x + inside l rho i) (one-term f ∙ ap (descent l) (add-zero (i * rho)))

-- so all descents are those at the beginnings of rows and those inside
all_split : (l : List ℕ) (m rho : ℕ) → 1 ≤ rho → sum_below (m * rho) (descent l) ≡ sum_below m (row_descent l rho) + sum_below m (inside l rho)
all_split l m rho h =
    sum-flat m rho (descent l) ∙ sum-cong m (λ i b. row-split l rho i h) ∙ sum-add m (row_descent l rho) (inside l rho)

-- where the counts agree no descent is inside a row: p is entry p % rho of row p / rho
none_inside : {l : List ℕ} {m rho : ℕ} → Laid l m rho → sum_below (length l) (descent l) ≡ sum_below m (row_descent l rho)
    → (p : ℕ) → p < length l → 0 < p % rho → descent l p ≡ 0
unfolding inside
none_inside {l} {m} {rho} d e p b h =
    let k : ℕ = p % rho - 1 in
    let row : p / rho < m = (div-lt_iff_lt-mul {k = rho} {x = p} {y = m} d.wide).1 (omega (arith, d.whole)) in
    let here : p / rho * rho + (1 + k) ≡ p = omega (arith, div-add-mod' p rho, h) in
    let none : sum_below m (inside l rho) ≡ 0 = omega (arith, e, ap (λ (x : ℕ). sum_below x (descent l)) d.whole, all_split l m rho d.wide) in
    let term = sum-term (rho - 1) (λ x. descent l (p / rho * rho + (1 + x))) k (omega (arith, mod-lt p d.wide, h)) in
    omega (arith, none, sum-term m (inside l rho) (p / rho) row, term, ap (descent l) here)

-- where no descent is inside a row the counts agree
counts-agree : {l : List ℕ} {m rho : ℕ} → Laid l m rho → ((p : ℕ) → p < length l → 0 < p % rho → descent l p ≡ 0)
    → sum_below (length l) (descent l) ≡ sum_below m (row_descent l rho)
unfolding inside
counts-agree {l} {m} {rho} d h =
    let none : sum_below m (inside l rho) ≡ 0 =
    sum-zero m (λ i b. sum-zero (rho - 1) (λ k c.
    let in_row : 1 + k < rho = omega arith in
    h (i * rho + (1 + k)) (omega (arith, d.whole, digits_lt {q = i} {m = m} {r = 1 + k} {c = rho} b in_row)) (omega (arith, digits_mod i in_row)))) in
    omega (arith, none, ap (λ (x : ℕ). sum_below x (descent l)) d.whole, all_split l m rho d.wide)

-- where the answer is yes no entry is bad
pub in-order-clear : (H : Matrix) → not (any_below (bad_entry H) (length H.list)) ≡ true → Never (BadEntry H) (length H.list)
in-order-clear H e p b = entry-clear H p (any-clear (bad_entry H) (length H.list) (not-true _ e) p b)

module _ {H : Matrix} (z : Sized H) where
  -- the list of a matrix in range is laid in rows
  pub laid : Laid H.list H.m H.rho
  laid = record { rows = z.sizes.m_least; wide = omega (arith, z.sizes.rho_least); whole = z.whole; few = few z }

  -- and has an entry
  pub not-empty : 1 ≤ length H.list
  not-empty = omega (arith, z.whole, mul-le-mul {n₁ = 1} {m₁ = 1} {n₂ = H.m} {m₂ = H.rho} z.sizes.m_least laid.wide)

  -- where the counts agree and no entry is beyond n, no entry is bad
  counts-clear : sum_below (length H.list) (descent H.list) ≡ sum_below H.m (row_descent H.list H.rho)
      → sum_below (length H.list) (not_below H.list H.n) ≡ 0 → Never (BadEntry H) (length H.list)
  counts-clear e none p b (inl h) =
      zero-below H.list H.n p (omega (arith, none, sum-term (length H.list) (not_below H.list H.n) p b)) h
  counts-clear e none p b (inr h) = zero-climbs H.list p (none_inside laid e p b h.0) h.1

  -- where no entry is bad the counts agree
  clear-counts : Never (BadEntry H) (length H.list)
      → sum_below (length H.list) (descent H.list) ≡ sum_below H.m (row_descent H.list H.rho)
  clear-counts c = counts-agree laid (λ p b h. climbs-zero H.list p (λ a. c p b (inr (h, a))))

  -- and no entry is beyond n
  clear-large : Never (BadEntry H) (length H.list) → sum_below (length H.list) (not_below H.list H.n) ≡ 0
  clear-large c = sum-zero (length H.list) (λ p b. below-zero H.list H.n p (λ a. c p b (inl a)))

  -- the counts agree and none is beyond n exactly where no entry is bad
  pub order-says : (x y w : ℕ) → x ≡ sum_below (length H.list) (descent H.list) → y ≡ sum_below H.m (row_descent H.list H.rho)
      → w ≡ sum_below (length H.list) (not_below H.list H.n) → (eqb x y && eqb w 0) ≡ not (any_below (bad_entry H) (length H.list))
  order-says x y w ex ey ew =
      cases (eqb x y && eqb w 0)
      (λ t.
      let c = counts-clear (sym ex ∙ eqb-true x y (and_left _ _ t) ∙ ey) (sym ew ∙ eqb-true w 0 (and_right (eqb x y) _ t)) in
      t ∙ sym (ap not (any_none (bad_entry H) (length H.list) (λ p b. test-fails (entries H) p (c p b)))))
      (λ o. cases (any_below (bad_entry H) (length H.list)) (λ s. o ∙ sym (ap not s))
      (λ n.
      let c = in-order-clear H (ap not n) in
      absurd (never (sym (and_both _ _ (eq-eqb x y (ex ∙ clear-counts c ∙ sym ey)) (eq-eqb w 0 (ew ∙ clear-large c))) ∙ o))))
