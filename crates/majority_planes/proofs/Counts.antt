-- Laws of numbers whose digits stand in planes.
--   set_at         == a listed set stands in the memory
--   none-six       == digits that are all 0 make 0
--   count_none     == no set is counted yet
--   EightWords     == words that are those of eight listed sets
--   eight-listed   == eight sets' words added are eight sets counted
--   count_next     == eight sets more
--   six-put        == six stores put a word of each plane
-- Assumes nothing.
use mathlib.Core.Path.{◌≡◌, refl, sym, ap, ◌∙◌}
use mathlib.Core.List.{List}
use Prim.Native.Nat.{ℕ, ◌+◌, ◌*◌, ◌%◌, ◌<◌, ◌≤◌}
use native.Mathlib.Nat.{add_assoc, add-zero, div-eq_of_lt}
use native.Mathlib.Omega.{arith}
use lib.ListN.{length, set, length-set}
use lib.Pow.{pow_pos}
use lib.Seq.{get_or-set_same, get_or-set_other}
use Rattle.counting.specs.Digits.{binary_digit}
use Rattle.counting.specs.Paper.Sum.{sum_below}
use Rattle.counting.specs.Places.{at}
use Rattle.counting.proofs.Sums.{sum-append, sum-cong, sum-part}
use Rattle.majority_planes.specs.Planes.{six_digits, plane_value, sets_count, SetsAt, SixDigits}
use Rattle.majority_planes.specs.Adders.{eight_bits, Grown, PlanePut}

-- ---- digits

none-digit : (t : ℕ) → binary_digit 0 t ≡ 0
none-digit t = ap (λ (y : ℕ). y % 2) (div-eq_of_lt (pow_pos t))

pub none-six : (a b c d e f : ℕ) → a ≡ 0 → b ≡ 0 → c ≡ 0 → d ≡ 0 → e ≡ 0 → f ≡ 0 → (t : ℕ) → six_digits a b c d e f t ≡ 0
unfolding six_digits
none-six a b c d e f ha hb hc hd he hf t = rw (ha, hb, hc, hd, he, hf, none-digit t) refl

-- ---- sets that are counted

pub count_none : (x l : List ℕ) (from w t : ℕ) → sets_count x l from (8 * 0) w t ≡ 0
unfolding sets_count sum_below
count_none x l from w t = refl

-- a bit of a listed set
unfoldable bit_at : List ℕ → List ℕ → ℕ → ℕ → ℕ → ℕ
bit_at x l w t q = binary_digit (at x (16 * at l q + w)) t

-- a sum of eight
eight-terms : (f : ℕ → ℕ) → sum_below 8 f ≡ f 0 + f 1 + f 2 + f 3 + f 4 + f 5 + f 6 + f 7
unfolding sum_below
eight-terms f = omega arith

-- eight of them, one by one
eight-bits : (x l : List ℕ) (q w t : ℕ)
    → sets_count x l q 8 w t
    ≡ bit_at x l w t q + bit_at x l w t (q + 1) + bit_at x l w t (q + 2) + bit_at x l w t (q + 3) + bit_at x l w t (q + 4) + bit_at x l w t (q + 5)
    + bit_at x l w t (q + 6)
    + bit_at x l w t (q + 7)
unfolding sets_count bit_at
eight-bits x l q w t = eight-terms (λ k. binary_digit (at x (16 * at l (q + k) + w)) t) ∙ ap (λ (i : ℕ). binary_digit (at x (16 * at l i + w)) t
    + binary_digit (at x (16 * at l (q + 1) + w)) t + binary_digit (at x (16 * at l (q + 2) + w)) t + binary_digit (at x (16 * at l (q + 3) + w)) t
    + binary_digit (at x (16 * at l (q + 4) + w)) t + binary_digit (at x (16 * at l (q + 5) + w)) t + binary_digit (at x (16 * at l (q + 6) + w)) t
    + binary_digit (at x (16 * at l (q + 7) + w)) t) (add-zero q)

module _ (x l : List ℕ) (q w y0 y1 y2 y3 y4 y5 y6 y7 : ℕ) where
  -- the words are those of the eight listed sets
  pub record EightWords : Type 0 where
    pub w0 : y0 ≡ at x (16 * at l q + w)
    pub w1 : y1 ≡ at x (16 * at l (q + 1) + w)
    pub w2 : y2 ≡ at x (16 * at l (q + 2) + w)
    pub w3 : y3 ≡ at x (16 * at l (q + 3) + w)
    pub w4 : y4 ≡ at x (16 * at l (q + 4) + w)
    pub w5 : y5 ≡ at x (16 * at l (q + 5) + w)
    pub w6 : y6 ≡ at x (16 * at l (q + 6) + w)
    pub w7 : y7 ≡ at x (16 * at l (q + 7) + w)

  listed-bits : EightWords → (t : ℕ) → eight_bits y0 y1 y2 y3 y4 y5 y6 y7 t ≡ sets_count x l q 8 w t
  unfolding eight_bits bit_at
  listed-bits s t = rw (s.w0, s.w1, s.w2, s.w3, s.w4, s.w5, s.w6, s.w7, eight-bits x l q w t) refl

  -- so what they add is what these sets count
  pub eight-listed : EightWords → (f h : ℕ → ℕ) → Grown f (eight_bits y0 y1 y2 y3 y4 y5 y6 y7) h → Grown f (sets_count x l q 8 w) h
  eight-listed s f h g t few =
      let e = listed-bits s t in
      g t (omega (arith, few, e)) ∙ ap (λ (y : ℕ). f t + y) e

-- the sets before, and eight more
count-more : (x l : List ℕ) (from q w t : ℕ) → sets_count x l from (8 * (q + 1)) w t ≡ sets_count x l from (8 * q) w t + sets_count x l (from + 8 * q) 8 w t
unfolding sets_count
count-more x l from q w t =
    let e : 8 * (q + 1) ≡ 8 * q + 8 = omega arith in
    ap (λ (k : ℕ). sum_below k (λ i. binary_digit (at x (16 * at l (from + i) + w)) t)) e
    ∙ sum-append (8 * q) 8 (λ i. binary_digit (at x (16 * at l (from + i) + w)) t)
    ∙ ap (λ (y : ℕ). sum_below (8 * q) (λ i. binary_digit (at x (16 * at l (from + i) + w)) t) + y)
    (sum-cong 8 (λ k h. ap (λ (i : ℕ). binary_digit (at x (16 * at l i + w)) t) (sym (add_assoc from (8 * q) k))))

-- fewer sets count no more
count-part : (x l : List ℕ) (from j k w t : ℕ) → j ≤ k → sets_count x l from j w t ≤ sets_count x l from k w t
unfolding sets_count
count-part x l from j k w t h = sum-part j k (λ i. binary_digit (at x (16 * at l (from + i) + w)) t) h

pub count_next : (x l : List ℕ) (from q k w : ℕ) → SixDigits x l from (8 * k) → w < 16 → q < k → (f h : ℕ → ℕ)
    → ((t : ℕ) → t < 64 → f t ≡ sets_count x l from (8 * q) w t) → Grown f (sets_count x l (from + 8 * q) 8 w) h
    → (t : ℕ) → t < 64 → h t ≡ sets_count x l from (8 * (q + 1)) w t
count_next x l from q k w six lw lq f h so g t lt =
    let more = count-more x l from q w t in
    let few = count-part x l from (8 * (q + 1)) (8 * k) w t (omega arith) in
    omega (arith, g t (omega (arith, so t lt, more, few, six w t lw lt)), so t lt, more)

-- ---- six stores

module _ (w a b c d e f : ℕ) (low : w < 16) (P : List ℕ) (long : length P ≡ 96) where
  abbrev P1 : List ℕ
  P1 = set P w a

  abbrev P2 : List ℕ
  P2 = set P1 (16 + w) b

  abbrev P3 : List ℕ
  P3 = set P2 (32 + w) c

  abbrev P4 : List ℕ
  P4 = set P3 (48 + w) d

  abbrev P5 : List ℕ
  P5 = set P4 (64 + w) e

  abbrev P6 : List ℕ
  P6 = set P5 (80 + w) f

  long1 : length P1 ≡ 96
  long1 = length-set P w a ∙ long

  long2 : length P2 ≡ 96
  long2 = length-set P1 (16 + w) b ∙ long1

  long3 : length P3 ≡ 96
  long3 = length-set P2 (32 + w) c ∙ long2

  long4 : length P4 ≡ 96
  long4 = length-set P3 (48 + w) d ∙ long3

  long5 : length P5 ≡ 96
  long5 = length-set P4 (64 + w) e ∙ long4

  -- a store at another place leaves the cell
  past5 : (k : ℕ) → k < 80 → at P6 k ≡ at P5 k
  past5 k h = get_or-set_other P5 (80 + w) k f 0 (λ q. omega arith)

  past4 : (k : ℕ) → k < 64 → at P6 k ≡ at P4 k
  past4 k h = past5 k (omega arith) ∙ get_or-set_other P4 (64 + w) k e 0 (λ q. omega arith)

  past3 : (k : ℕ) → k < 48 → at P6 k ≡ at P3 k
  past3 k h = past4 k (omega arith) ∙ get_or-set_other P3 (48 + w) k d 0 (λ q. omega arith)

  past2 : (k : ℕ) → k < 32 → at P6 k ≡ at P2 k
  past2 k h = past3 k (omega arith) ∙ get_or-set_other P2 (32 + w) k c 0 (λ q. omega arith)

  past1 : (k : ℕ) → k < 16 → at P6 k ≡ at P1 k
  past1 k h = past2 k (omega arith) ∙ get_or-set_other P1 (16 + w) k b 0 (λ q. omega arith)

  -- cells of other words stay
  other : (v k i : ℕ) → v < 16 → (v ≡ w → ⊥) → i ≡ 16 * k + v → at P6 i ≡ at P i
  other v k i h n e' =
      get_or-set_other P5 (80 + w) i f 0 (λ q. n (omega arith))
      ∙ get_or-set_other P4 (64 + w) i e 0 (λ q. n (omega arith))
      ∙ get_or-set_other P3 (48 + w) i d 0 (λ q. n (omega arith))
      ∙ get_or-set_other P2 (32 + w) i c 0 (λ q. n (omega arith))
      ∙ get_or-set_other P1 (16 + w) i b 0 (λ q. n (omega arith))
      ∙ get_or-set_other P w i a 0 (λ q. n (omega arith))

  here-at : (t : ℕ) → plane_value P6 w t ≡ six_digits a b c d e f t
  unfolding plane_value
  here-at t =
      let e0 : at P6 w ≡ a = past1 w low ∙ get_or-set_same P w a 0 (omega (arith, long)) in
      let e1 : at P6 (16 + w) ≡ b = past2 (16 + w) (omega arith) ∙ get_or-set_same P1 (16 + w) b 0 (omega (arith, long1)) in
      let e2 : at P6 (32 + w) ≡ c = past3 (32 + w) (omega arith) ∙ get_or-set_same P2 (32 + w) c 0 (omega (arith, long2)) in
      let e3 : at P6 (48 + w) ≡ d = past4 (48 + w) (omega arith) ∙ get_or-set_same P3 (48 + w) d 0 (omega (arith, long3)) in
      let e4 : at P6 (64 + w) ≡ e = past5 (64 + w) (omega arith) ∙ get_or-set_same P4 (64 + w) e 0 (omega (arith, long4)) in
      let e5 : at P6 (80 + w) ≡ f = get_or-set_same P5 (80 + w) f 0 (omega (arith, long5)) in
      rw (e0, e1, e2, e3, e4, e5) refl

  there-at : (v t : ℕ) → v < 16 → (v ≡ w → ⊥) → plane_value P6 v t ≡ plane_value P v t
  unfolding plane_value
  there-at v t h n =
      rw (
        other v 0 v h n (omega arith),
        other v 1 (16 + v) h n (omega arith),
        other v 2 (32 + v) h n (omega arith),
        other v 3 (48 + v) h n (omega arith),
        other v 4 (64 + v) h n (omega arith),
        other v 5 (80 + v) h n (omega arith),
      )
      refl

  pub six-put : PlanePut w (six_digits a b c d e f) P (set (set (set (set (set (set P w a) (16 + w) b) (32 + w) c) (48 + w) d) (64 + w) e) (80 + w) f)
  six-put = record { long = length-set P5 (80 + w) f ∙ long5; here = here-at; there = there-at }

-- ---- where sets stand

pub set_at : (x l : List ℕ) (k q w : ℕ) → SetsAt x l k → q < k → k ≤ 1023 → w < 16
    → (q < 1023) × (w < 16) × (at l q < 1023) × (16 * at l q + 16 ≤ length x)
set_at x l k q w s h few low = (omega arith, low, (s q h).0, (s q h).1)
