-- Laws of the places at which parts of two runs of bytes differ.
--   apart_none      == no bytes differ at no place
--   apart-append    == the places of one part and of the next are together those of both
--   apart-first     == the first byte, and those behind it
--   apart-part      == the first bytes of parts that start at byte q are the runs' from byte q on
--   apart_words     == one word of eight bytes more
--   apart-bytes     == one byte more
--   apart-within    == k bytes differ at 8 k places at most
--   apart-all       == the places of the first k bytes are the distance of their bits
--   apart-long      == those of the first words and of the bytes behind them are the distance of the runs
-- Assumes nothing.
use mathlib.Core.Path.{◌≡◌, refl, ap, ap₂, ◌∙◌}
use mathlib.Core.List.{List}
use Prim.Native.Nat.{ℕ, zero, suc, ◌+◌, ◌*◌, ◌-◌, ◌≤◌, ◌<◌}
use native.Mathlib.Omega.{arith}
use lib.ListN.{get_or, take, drop}
use lib.Seq.{get_or-take, get_or-drop}
use Rattle.counting.specs.Paper.Sum.{sum_below}
use Rattle.counting.proofs.Sums.{sum-cong, sum-append, sum_bound}
use Rattle.packed_word.specs.Paper.Packed.{bit_at, distance}
use Rattle.packed_distance.specs.Parts.{apart, apart_in}
use Rattle.packed_distance.proofs.Counts.{apart-few, distance_none, distance-more}

-- byte i of a part that starts at byte q
part_at : (w : List ℕ) (q m i : ℕ) → i < m → get_or (take m (drop q w)) (0 + i) 0 ≡ get_or w (q + i) 0
part_at w q m i h =
    let here : 0 + i ≡ i = omega arith in
    ap (λ (j : ℕ). get_or (take m (drop q w)) j 0) here ∙ get_or-take m (drop q w) i 0 h ∙ get_or-drop q w i 0

-- k bytes differ at 8 k places at most
pub apart-within : (a b : List ℕ) (q k r : ℕ) → r ≡ apart_in a b q k → r ≤ 8 * k
unfolding apart_in
apart-within a b q k r e =
    let each : ℕ → ℕ = λ i. apart (get_or a (q + i) 0) (get_or b (q + i) 0) in
    omega (arith, sum_bound k 8 {f = each} (λ i h. apart-few (each i) (get_or a (q + i) 0) (get_or b (q + i) 0) refl))

module _ (a b : List ℕ) where
  -- the places at which byte i differs
  abbrev apart_at : ℕ → ℕ
  apart_at i = apart (get_or a i 0) (get_or b i 0)

  -- no bytes differ at no place
  pub apart_none : (q : ℕ) → 0 ≡ apart_in a b q 0
  unfolding apart_in sum_below
  apart_none q = refl

  -- one byte
  apart-one : (q : ℕ) → apart_in a b q 1 ≡ apart_at (q + 0)
  unfolding apart_in sum_below
  apart-one q = omega arith

  -- the places of one part and of the next are together those of both
  apart-append : (q k l : ℕ) → apart_in a b q (k + l) ≡ apart_in a b q k + apart_in a b (q + k) l
  unfolding apart_in
  apart-append q k l =
      let e : (i : ℕ) → q + (k + i) ≡ q + k + i = λ i. omega arith in
      sum-append k l (λ i. apart_at (q + i))
      ∙ ap (λ (x : ℕ). sum_below k (λ i. apart_at (q + i)) + x) (sum-cong l (λ i h. ap apart_at (e i)))

  -- the first byte, and those behind it
  pub apart-first : (q k : ℕ) → apart_in a b q (suc k) ≡ apart_at q + apart_in a b (q + 1) k
  apart-first q k =
      let here : q + 0 ≡ q = omega arith in
      let one : apart_in a b q 1 ≡ apart_at (q + 0) = apart-one q in
      let more : suc k ≡ 1 + k = omega arith in
      omega (arith, ap (apart_in a b q) more, apart-append q 1 k, one, ap apart_at here)

  -- parts of the runs that start at byte q
  pub apart-part : (q k m n : ℕ) → k ≤ m → k ≤ n → apart_in (take m (drop q a)) (take n (drop q b)) 0 k ≡ apart_in a b q k
  unfolding apart_in
  apart-part q k m n h g = sum-cong k (λ i l. ap₂ apart (part_at a q m i (omega arith)) (part_at b q n i (omega arith)))

  -- one word more
  pub apart_words : (i : ℕ) → apart_in a b 0 (8 * (i + 1)) ≡ apart_in a b 0 (8 * i) + apart_in a b (8 * i) 8
  apart_words i =
      let here : 0 + 8 * i ≡ 8 * i = omega arith in
      let next : 8 * (i + 1) ≡ 8 * i + 8 = omega arith in
      ap (apart_in a b 0) next ∙ apart-append 0 (8 * i) 8 ∙ ap (λ (q : ℕ). apart_in a b 0 (8 * i) + apart_in a b q 8) here

  -- one byte more
  pub apart-bytes : (from q : ℕ) → from ≤ q → apart_in a b from (q + 1 - from) ≡ apart_in a b from (q - from) + apart_at q
  apart-bytes from q h =
      let here : from + (q - from) + 0 ≡ q = omega arith in
      let next : q + 1 - from ≡ q - from + 1 = omega arith in
      omega (arith, ap (apart_in a b from) next, apart-append from (q - from) 1, apart-one (from + (q - from)), ap apart_at here)

  -- the places of the first k bytes are the distance of their bits
  apart-all : (k : ℕ) → apart_in a b 0 k ≡ distance (8 * k) (bit_at a) (bit_at b)
  unfolding apart_in sum_below
  apart-all zero = distance_none (bit_at a) (bit_at b)
  apart-all (suc k) =
      let here : 0 + k ≡ k = omega arith in
      let next : suc k ≡ k + 1 = omega arith in
      omega (arith, apart-all k, distance-more a b k, ap apart_at here, ap (λ (i : ℕ). distance (8 * i) (bit_at a) (bit_at b)) next)

  -- the words' places and those of the bytes behind them are the runs' distance
  pub apart-long : (k n : ℕ) → k ≤ n → apart_in a b 0 k + apart_in a b k (n - k) ≡ distance (8 * n) (bit_at a) (bit_at b)
  apart-long k n h =
      let here : 0 + k ≡ k = omega arith in
      let whole : k + (n - k) ≡ n = omega arith in
      omega (arith, apart-append 0 k (n - k), apart-all n, ap (apart_in a b 0) whole, ap (λ (q : ℕ). apart_in a b q (n - k)) here)
