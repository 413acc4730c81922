-- Laws of the columns that rows have: one column more, one row more, and what all failing rows add.
--   among_none      == no column of a row is counted yet
--   among_more      == one column more
--   among_next      == which is one of the row's
--   among_parts     == a part of the list in two parts
--   among_within    == what the first of them and the next have is no more than the whole has
--   part-within     == such a part is a part
--   rows_none       == no row is counted yet
--   rows_more       == one row more
--   rows_next       == which is one of those listed
--   places-parts    == rows of the matrix that are listed are rows of the list
--   places-votes    == what rows that are listed where f is 1 add at a bit: f of each row that has the bit
--   failing-parts   == the failing rows are rows of the list
--   failing-votes   == what the failing rows add is the votes
--   failing-room    == what they add fits a cleared array
--   tallied         == a cleared array to which they are added is the tally of the votes
-- Assumes nothing.
use mathlib.Core.Path.{◌≡◌, refl, sym, ap, ◌∙◌}
use mathlib.Core.List.{List}
use Prim.Native.Nat.{ℕ, ◌+◌, ◌*◌, ◌<◌, ◌≤◌}
use native.Mathlib.Nat.{add_assoc, mul_comm}
use native.Mathlib.Numerals.{add-one}
use native.Mathlib.Omega.{arith}
use lib.ListN.{replicate, length-replicate}
use Rattle.counting.specs.Paper.Sum.{sum_below, same}
use Rattle.counting.specs.Places.{at, among}
use Rattle.counting.proofs.Sums.{sum-cong, sum-append, sum-part, sum-next}
use Rattle.counting.proofs.Writes.{zeros}
use Rattle.matrix.specs.Paper.Code.{Matrix, entry, has, fails, failing}
use Rattle.matrix.specs.Paper.PlainCheck.{Accepted}
use Rattle.syndrome.specs.Places.{Part, Places}
use Rattle.syndrome.proofs.Parity.{row-part}
use Rattle.syndrome.proofs.Lists.{places-sum}
use Rattle.majority_logic.specs.Paper.Votes.{votes}
use Rattle.majority_logic.proofs.Correction.{votes-small}
use Rattle.majority_votes.specs.Tallies.{of_rows, Addable, ListedRows, More, Tallied}

-- ---- one row

-- nothing is counted yet
pub among_none : (l : List ℕ) (from j : ℕ) → among l from 0 j ≡ 0
unfolding among sum_below
among_none l from j = refl

-- one column more
pub among_more : (l : List ℕ) (from k j : ℕ) → among l from (k + 1) j ≡ among l from k j + same (at l (from + k)) j
unfolding among sum_below
among_more l from k j = rw (add-one k) refl

-- which is one of the row's
pub among_next : (l : List ℕ) (from count k j : ℕ) → k < count → among l from k j + same (at l (from + k)) j ≤ among l from count j
unfolding among
among_next l from count k j h = sum-next k count (λ q. same (at l (from + q)) j) h

-- a part of the list in two parts
pub among_parts : (l : List ℕ) (from k r t j : ℕ) → k + r ≡ t → among l from t j ≡ among l from k j + among l (from + k) r j
unfolding among
among_parts l from k r t j e =
    ap (λ (x : ℕ). sum_below x (λ q. same (at l (from + q)) j)) (sym e)
    ∙ sum-append k r (λ q. same (at l (from + q)) j)
    ∙ ap (λ (y : ℕ). sum_below k (λ q. same (at l (from + q)) j) + y) (sum-cong r (λ q h. ap (λ (y : ℕ). same (at l y) j) (sym (add_assoc from k q))))

-- what the first of them and the next have is no more than the whole has
pub among_within : (l : List ℕ) (from count k r j : ℕ) → k + r ≤ count → among l from k j + among l (from + k) r j ≤ among l from count j
unfolding among
among_within l from count k r j h =
    omega (arith, among_parts l from k r (k + r) j refl, sum-part (k + r) count (λ q. same (at l (from + q)) j) h)

-- such a part is a part
pub part-within : (l : List ℕ) (from count k r : ℕ) → k + r ≤ count → Part l from count → Part l (from + k) r
part-within l from count k r h p =
    record {
      room = omega (arith, p.room);
      short = omega (arith, p.short);
      below = λ q b. rw (add_assoc from k q) (p.below (k + q) (omega arith));
    }

-- ---- the listed rows

-- no row is counted yet
pub rows_none : (l : List ℕ) (rho : ℕ) (rows : List ℕ) (j : ℕ) → of_rows l rho rows 0 j ≡ 0
unfolding of_rows sum_below
rows_none l rho rows j = refl

-- one row more
pub rows_more : (l : List ℕ) (rho : ℕ) (rows : List ℕ) (q j : ℕ) → of_rows l rho rows (q + 1) j ≡ of_rows l rho rows q j + among l (at rows q * rho) rho j
unfolding of_rows sum_below
rows_more l rho rows q j = rw (add-one q) refl

-- which is one of those listed
pub rows_next : (l : List ℕ) (rho : ℕ) (rows : List ℕ) (t q j : ℕ) → q < t
    → of_rows l rho rows q j + among l (at rows q * rho) rho j ≤ of_rows l rho rows t j
unfolding of_rows
rows_next l rho rows t q j h = sum-next q t (λ p. among l (at rows p * rho) rho j) h

-- ---- rows of a matrix, listed where f is 1

module _ (H : Matrix) (a : Accepted H) (f : ℕ → ℕ) (rows : List ℕ) (t : ℕ) (p : Places f H.m rows t) where
  -- they are rows of the list
  pub places-parts : ListedRows H.list H.rho rows t
  places-parts =
      record {
        few = omega (arith, p.few, a.sizes.m_most);
        below = λ q h. omega (arith, p.below q h, a.sizes.m_most);
        part = λ q h. row-part H a (at rows q) (p.below q h);
      }

  -- what they add
  pub places-votes : (j : ℕ) → of_rows H.list H.rho rows t j ≡ sum_below H.m (λ i. has H i j * f i)
  unfolding of_rows among has entry
  places-votes j =
      places-sum f H.m rows t p (λ i. has H i j) ∙ sum-cong H.m (λ i h. mul_comm (f i) (has H i j))

-- ---- all failing rows

module _ (H : Matrix) (a : Accepted H) (z : ℕ → ℕ) (rows : List ℕ) (t : ℕ) (p : Places (fails H z) H.m rows t) where
  -- they are rows of the list
  pub failing-parts : ListedRows H.list H.rho rows t
  failing-parts = places-parts H a (fails H z) rows t p

  -- what they add is the votes
  pub failing-votes : (j : ℕ) → of_rows H.list H.rho rows t j ≡ votes H z j
  unfolding votes
  failing-votes j = places-votes H a (fails H z) rows t p j

  -- which fit a cleared array
  pub failing-room : Addable (of_rows H.list H.rho rows t) (replicate 1023 0)
  failing-room =
      record {
        long = length-replicate {A = ℕ} 1023 0;
        fits = λ j. omega (arith, zeros 1023 j, failing-votes j, votes-small H a z j);
      }

  -- a cleared array to which they are added is the tally of the votes
  pub tallied : (v : List ℕ) → More (of_rows H.list H.rho rows t) (replicate 1023 0) v → Tallied H z v t
  unfolding failing
  tallied v m =
      record { long = m.long; each = λ j. omega (arith, m.each j, zeros 1023 j, failing-votes j); count = p.total }
