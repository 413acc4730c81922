-- Laws of the columns' weights in an array.
--   weighed              == an array in which the weights are written has them
--   gap_is               == a gap as the code has it
--   filled               == what a fill of the first cells writes
--   cleared              == cells filled with 0 are cleared
--   came-le              == no number stands more often in a part of a list than the part is long
--   counted_none         == nothing is counted yet
--   counted_room         == a cell that began at 0 has room for one more
--   counted_next         == one number more is counted
--   entry-low            == an entry of an accepted matrix is a column
--   filled-equal         == where all columns weigh gamma, cells filled with gamma have the weights
--   counted-weights      == the list counted in cleared cells gives the weights; the other cells stay
-- Assumes nothing.
use mathlib.Core.Path.{◌≡◌, refl, sym, ap, ◌∙◌}
use mathlib.Core.List.{List, ◌++◌}
use mathlib.Core.Logic.{inl, inr}
use Prim.Native.Nat.{ℕ, ◌+◌, ◌*◌, ◌-◌, ◌≤◌, ◌<◌}
use native.Mathlib.Nat.{mul-one, min-eq_left}
use native.Mathlib.Numerals.{add-one}
use native.Mathlib.Decide.{dec_lt}
use native.Mathlib.Omega.{arith}
use lib.ListN.{length, set, length-set, replicate, drop, take, length-take}
use lib.Seq.{ext_get_or}
use Rattle.counting.specs.Paper.Sum.{sum_below, same}
use Rattle.counting.specs.Paper.Lists.{listed, over}
use Rattle.counting.specs.Places.{at}
use Rattle.counting.proofs.Sums.{sum_bound, same-le, same_refl, same-ne}
use Rattle.counting.proofs.Loops.{over_fill}
use Rattle.counting.proofs.Writes.{listed-cong, stored, over-at, over-rest, over-long}
use Rattle.matrix.specs.Paper.Code.{Matrix, weight}
use Rattle.matrix.specs.Paper.PlainCheck.{Accepted}
use Rattle.matrix.specs.Tallies.{Weighed}
use Rattle.matrix.proofs.Ordered.{accepted-ordered}
use Rattle.matrix.proofs.Rows.{weight-flat, weight-outside}
use Rattle.matrix.proofs.Weights.{weight-equal}
use Rattle.matrix_degrees.specs.Degrees.{gap, always, came, Counted}

-- an array in which the weights are written has them
pub weighed : (H : Matrix) (w old : List ℕ) → w ≡ over (listed H.n (weight H)) old → Weighed H w
weighed H w old e = over-at H.n (weight H) old w e 0

-- a gap as the code has it
pub gap_is : (x : List ℕ) (j : ℕ) → at x (j + 1) - at x j ≡ gap x j
unfolding gap
gap_is x j = refl

-- the first n cells filled with x, and those behind them
pub filled : (n x : ℕ) (old new : List ℕ) → n ≤ length old → new ≡ replicate (length (take n old)) x → new ++ drop n old ≡ over (listed n (always x)) old
unfolding always
filled n x old new h e = rw (e, length-take n old, min-eq_left h) (over_fill n x old)

-- cells filled with 0 are cleared
pub cleared : (n : ℕ) (old new : List ℕ) → new ≡ over (listed n (always 0)) old → (j : ℕ) → j < n → at new j ≡ 0
unfolding always
cleared n old new e = over-at n (always 0) old new e 0

-- an array with the values of f at the front and the old ones behind is the old one written over
over-is : (n : ℕ) (f : ℕ → ℕ) (old new : List ℕ) → n ≤ length old → length new ≡ length old → ((j : ℕ) → j < n → at new j ≡ f j)
    → ((j : ℕ) → n ≤ j → at new j ≡ at old j) → new ≡ over (listed n f) old
over-is n f old new h long front rest =
    ext_get_or 0 new (over (listed n f) old) (long ∙ sym (over-long n f old (over (listed n f) old) refl h)) (λ j l. elim (dec_lt j n) [
      | yes g ↦ front j g ∙ sym (over-at n f old (over (listed n f) old) refl 0 j g)
      | no g ↦ rest j (omega arith) ∙ sym (over-rest n f old (over (listed n f) old) refl 0 j (omega arith))
    ])

module _ (l : List ℕ) where
  -- no number stands more often in a part of a list than the part is long
  pub came-le : (p j : ℕ) → came l p j ≤ p
  unfolding came
  came-le p j = omega (arith, sum_bound p 1 {f = λ x. same (at l x) j} (λ x g. same-le (at l x) j), mul-one p)

  -- one number more may be j
  came-more : (p j : ℕ) → came l (p + 1) j ≡ came l p j + same (at l p) j
  unfolding came sum_below
  came-more p j = rw (add-one p) refl

  -- nothing is counted yet
  pub counted_none : (old : List ℕ) → Counted l 0 old old
  unfolding came sum_below
  counted_none old = record { long = refl; each = λ j. omega arith }

  -- there is room for one more in a cell that began at 0
  pub counted_room : (p : ℕ) (old new : List ℕ) → Counted l p old new → p < 65535 → at old (at l p) ≡ 0 → at new (at l p) < 65535
  counted_room p old new t h e = omega (arith, t.each (at l p), came-le p (at l p))

  -- one number more is counted
  pub counted_next : (p : ℕ) (old new : List ℕ) → Counted l p old new → at l p < length old
      → Counted l (p + 1) old (set new (at l p) (at new (at l p) + 1))
  counted_next p old new t h =
      record {
        long = length-set new (at l p) (at new (at l p) + 1) ∙ t.long;
        each = λ j. elim (stored new (at l p) (at new (at l p) + 1) j (omega (arith, t.long))) [
          | inl e ↦ rw e.1 (omega (arith, rw e.1 at e.0, t.each (at l p), came-more p (at l p), same_refl (at l p)))
          | inr e ↦ omega (arith, e.0, t.each j, came-more p j, same-ne (at l p) j (λ q. e.1 (sym q)))
        ];
      }

module _ (H : Matrix) (a : Accepted H) where
  -- an entry of the list is a column
  pub entry-low : (p : ℕ) → p < length H.list → at H.list p < H.n
  entry-low p h =
      elim (dec_lt (at H.list p) H.n) [ yes l ↦ l | no f ↦ absurd ((accepted-ordered H a).clear p h (inl (omega arith))) ]

  -- in the whole list each column came as often as its weight says
  came-all : (j : ℕ) → came H.list (length H.list) j ≡ weight H j
  unfolding came
  came-all j = ap (λ (k : ℕ). sum_below k (λ x. same (at H.list x) j)) a.rows.whole ∙ sym (weight-flat H j)

  module _ (old : List ℕ) where
    -- where all columns weigh gamma, cells filled with gamma have the weights
    pub filled-equal : (new : List ℕ) → length H.list ≡ H.n * H.gamma → new ≡ over (listed H.n (always H.gamma)) old
        → new ≡ over (listed H.n (weight H)) old
    unfolding always
    filled-equal new e s =
        s
        ∙ ap (λ (l : List ℕ). over l old)
        (listed-cong H.n (always H.gamma) (weight H) (λ j l. sym (weight-equal H a (sym a.rows.whole ∙ e) j l)))

    -- the list counted in cleared cells gives the weights; the other cells stay
    pub counted-weights : (mid new : List ℕ) → length old ≡ 1023 → mid ≡ over (listed H.n (always 0)) old
        → Counted H.list (length H.list) mid new → new ≡ over (listed H.n (weight H)) old
    counted-weights mid new long e t =
        over-is H.n (weight H) old new room
        (t.long ∙ over-long H.n (always 0) old mid e room)
        (λ j l. omega (arith, t.each j, cleared H.n old mid e j l, came-all j))
        (λ j l. omega (arith, t.each j, over-rest H.n (always 0) old mid e 0 j l, came-all j, weight-outside H a.rows j l))
      where
        room : H.n ≤ length old
        room = omega (arith, long, a.sizes.n_most)
