-- Laws of votes that are kept: what the checks add that began to fail, what those take that no longer do, and votes anew.
--   turned-over      == a check of one set, or one that only the other has, is a check of the other, or one that only the first has
--   begun-small      == and it is either at most once
--   votes-moved      == so are the votes of the sets: those of one, and of what only the other has, are the same either way
--   votes-weight     == checks that vote at most once give a bit at most as many votes as it has checks
--   listed-few       == rows that are listed at most once each give a bit few votes
--   only-small       == a check that only one set has is listed at most once
--   begun-room       == the checks that began to fail have room for their votes
--   ended-there      == those that no longer fail have theirs there, once the others have been added
--   moved            == with the ones added and the others taken the votes are those of the set
--   votes-past       == no bit past those of the matrix has votes
--   wiped            == a part that is all zeros stands for cleared votes
--   cleared          == with those of its bits cleared there are no votes
--   none_only        == a set has, and the empty one has not, what the set has
--   anew-room        == the checks of a set have room in an array that has been cleared
--   anew             == and added to it, are the votes of the set
-- Assumes nothing.
use mathlib.Core.Path.{◌≡◌, refl, sym, ap, ◌∙◌}
use mathlib.Core.List.{List, ◌++◌}
use Prim.Native.Nat.{ℕ, zero, suc, ◌+◌, ◌-◌, ◌*◌, ◌<◌, ◌≤◌}
use native.Mathlib.Nat.{mul-add, mul-one, mul-le-mul_left}
use native.Mathlib.Decide.{dec_lt}
use native.Mathlib.Omega.{arith}
use lib.ListN.{length, take, drop, replicate}
use lib.Seq.{length-take-le}
use Rattle.counting.specs.Paper.Lists.{listed, over}
use Rattle.counting.specs.Paper.Sum.{sum_below}
use Rattle.counting.specs.Places.{at}
use Rattle.counting.proofs.Sums.{sum-cong, sum-le, sum-add}
use Rattle.counting.proofs.Loops.{over_fill}
use Rattle.counting.proofs.Writes.{over-long, over-at, over-rest}
use Rattle.matrix.specs.Paper.Code.{Matrix, has, weight}
use Rattle.matrix.specs.Paper.PlainCheck.{Accepted}
use Rattle.matrix.proofs.Rows.{weight-outside}
use Rattle.matrix.proofs.Weights.{weight-small}
use Rattle.syndrome.specs.Places.{Places}
use Rattle.syndrome_words.specs.Sets.{bit_in, only_in, set_votes, SetVotes}
use Rattle.syndrome_words.proofs.Sets.{bit-bit, zero_bit}
use Rattle.majority_votes.specs.Tallies.{of_rows, Addable, More, Takeable, Fewer}
use Rattle.majority_votes.proofs.Sums.{places-parts, places-votes}
use Rattle.majority_sets.specs.Sets.{VotesFew}
use Rattle.iterative_votes.specs.Kept.{no_votes, VotesOf}

-- ---- one check

-- of bits: the one and what only the other has, either way
turned : (x y : ℕ) → x < 2 → y < 2 → y + x * (1 - y) ≡ x + y * (1 - x)
turned zero zero h l = refl
turned zero (suc zero) h l = refl
turned zero (suc (suc y)) h l = absurd (omega arith)
turned (suc zero) zero h l = refl
turned (suc zero) (suc zero) h l = refl
turned (suc zero) (suc (suc y)) h l = absurd (omega arith)
turned (suc (suc x)) y h l = absurd (omega arith)

small : (x y : ℕ) → x < 2 → y < 2 → x + y * (1 - x) ≤ 1
small zero zero h l = omega arith
small zero (suc zero) h l = omega arith
small zero (suc (suc y)) h l = absurd (omega arith)
small (suc zero) zero h l = omega arith
small (suc zero) (suc zero) h l = omega arith
small (suc zero) (suc (suc y)) h l = absurd (omega arith)
small (suc (suc x)) y h l = absurd (omega arith)

-- a check of b, or one that only a has, is a check of a, or one that only b has
pub turned-over : (a b : List ℕ) (i : ℕ) → bit_in b 0 i + only_in a b i ≡ bit_in a 0 i + only_in b a i
unfolding only_in
turned-over a b i = turned (bit_in a 0 i) (bit_in b 0 i) (bit-bit a 0 i) (bit-bit b 0 i)

pub begun-small : (a b : List ℕ) (i : ℕ) → bit_in a 0 i + only_in b a i ≤ 1
unfolding only_in
begun-small a b i = small (bit_in a 0 i) (bit_in b 0 i) (bit-bit a 0 i) (bit-bit b 0 i)

-- ---- the checks of one bit

-- the votes on bit j where check i votes f i times
abbrev votes_by : Matrix → (ℕ → ℕ) → ℕ → ℕ
votes_by H f j = sum_below H.m (λ i. has H i j * f i)

-- two votes of each check
both : (H : Matrix) (f g : ℕ → ℕ) (j : ℕ) → votes_by H f j + votes_by H g j ≡ votes_by H (λ i. f i + g i) j
both H f g j =
    sym (sum-add H.m (λ i. has H i j * f i) (λ i. has H i j * g i))
    ∙ sum-cong H.m (λ i h. sym (mul-add (has H i j) (f i) (g i)))

-- the votes of the sets
pub votes-moved : (H : Matrix) (a b : List ℕ) (j : ℕ)
    → set_votes H b j + sum_below H.m (λ i. has H i j * only_in a b i) ≡ set_votes H a j + sum_below H.m (λ i. has H i j * only_in b a i)
unfolding set_votes
votes-moved H a b j =
    both H (bit_in b 0) (only_in a b) j
    ∙ sum-cong H.m (λ i h. ap (λ (y : ℕ). has H i j * y) (turned-over a b i))
    ∙ sym (both H (bit_in a 0) (only_in b a) j)

-- checks that vote at most once
pub votes-weight : (H : Matrix) (f : ℕ → ℕ) → ((i : ℕ) → f i ≤ 1) → (j : ℕ) → sum_below H.m (λ i. has H i j * f i) ≤ weight H j
unfolding weight
votes-weight H f s j =
    sum-le H.m (λ i h. omega (arith, mul-le-mul_left (has H i j) (s i), mul-one (has H i j)))

-- rows listed once each, or not at all
pub listed-few : (H : Matrix) → Accepted H → (f : ℕ → ℕ) → ((i : ℕ) → f i ≤ 1) → (rows : List ℕ) (t : ℕ) → Places f H.m rows t → VotesFew H rows t
listed-few H ac f s rows t p =
    record {
      parts = places-parts H ac f rows t p;
      below = p.below;
      few = λ j. omega (arith, places-votes H ac f rows t p j, votes-weight H f s j, weight-small H ac j);
    }

-- as those that only one set has
pub only-small : (a b : List ℕ) (i : ℕ) → only_in b a i ≤ 1
only-small a b i = omega (arith, begun-small a b i)

-- ---- from one set to another

module _ (H : Matrix) (ac : Accepted H) (a b : List ℕ) (v : List ℕ) (s : SetVotes H a v) where
  module _ (rows : List ℕ) (t : ℕ) (p : Places (only_in b a) H.m rows t) where
    -- what the checks that began to fail add
    begun : (j : ℕ) → at v j + of_rows H.list H.rho rows t j ≡ votes_by H (λ i. bit_in a 0 i + only_in b a i) j
    unfolding set_votes
    begun j = omega (arith, s.each j, places-votes H ac (only_in b a) rows t p j, both H (bit_in a 0) (only_in b a) j)

    -- which has room
    pub begun-room : Addable (of_rows H.list H.rho rows t) v
    begun-room =
        record {
          long = s.long;
          fits = λ j. omega (arith, begun j, votes-weight H (λ i. bit_in a 0 i + only_in b a i) (begun-small a b) j, weight-small H ac j);
        }

    module _ (mid : List ℕ) (m : More (of_rows H.list H.rho rows t) v mid) where
      -- then all votes are there that are of the one set or of the other
      there : (j : ℕ) → at mid j ≡ set_votes H b j + votes_by H (only_in a b) j
      there j =
          omega (arith, m.each j, s.each j, places-votes H ac (only_in b a) rows t p j, votes-moved H a b j)

      module _ (rows' : List ℕ) (t' : ℕ) (q : Places (only_in a b) H.m rows' t') where
        -- also of those that no longer fail
        pub ended-there : Takeable (of_rows H.list H.rho rows' t') mid
        ended-there =
            record { long = m.long; there = λ j. omega (arith, there j, places-votes H ac (only_in a b) rows' t' q j) }

        -- which are taken
        pub moved : (new : List ℕ) → Fewer (of_rows H.list H.rho rows' t') mid new → SetVotes H b new
        moved new f =
            record { long = f.long; each = λ j. omega (arith, there j, f.each j, places-votes H ac (only_in a b) rows' t' q j) }

-- ---- all checks of a set

-- no bit past those of the matrix has votes
pub votes-past : (H : Matrix) → Accepted H → (a v : List ℕ) → SetVotes H a v → VotesOf H.n v
unfolding set_votes
votes-past H ac a v s =
    record {
      long = s.long;
      past = λ j h. omega (arith, s.each j, votes-weight H (bit_in a 0) (λ i. bit a i) j, weight-outside H ac.rows j h);
    }
  where
    bit : (a : List ℕ) (i : ℕ) → bit_in a 0 i ≤ 1
    bit a i = omega (arith, bit-bit a 0 i)

-- a part that is all zeros, before what stood behind it
pub wiped : (n : ℕ) (old new : List ℕ) → n ≤ length old → new ≡ replicate (length (take n old)) 0 → new ++ drop n old ≡ over (listed n no_votes) old
unfolding no_votes
wiped n old new h e = rw (e, length-take-le n old h) (over_fill n 0 old)

-- with those of its bits cleared there are none
pub cleared : (n : ℕ) (v new : List ℕ) → VotesOf n v → new ≡ over (listed n no_votes) v → (j : ℕ) → at new j ≡ 0
unfolding no_votes
cleared n v new s e j =
    elim (dec_lt j n) [
      | yes h ↦ over-at n no_votes v new e 0 j h
      | no g ↦ let h : n ≤ j = omega arith in over-rest n no_votes v new e 0 j h ∙ s.past j h
    ]

-- what a set has, and the empty one has not
pub none_only : (b : List ℕ) (i : ℕ) → only_in b (replicate 16 0) i ≡ bit_in b 0 i
unfolding only_in
none_only b i = ap (λ (y : ℕ). bit_in b 0 i * (1 - y)) (zero_bit i) ∙ mul-one (bit_in b 0 i)

module _ (H : Matrix) (ac : Accepted H) (b : List ℕ) (rows : List ℕ) (t : ℕ) (p : Places (only_in b (replicate 16 0)) H.m rows t) where
  -- what the listed checks add
  all-votes : (j : ℕ) → of_rows H.list H.rho rows t j ≡ set_votes H b j
  unfolding set_votes
  all-votes j =
      places-votes H ac (only_in b (replicate 16 0)) rows t p j
      ∙ sum-cong H.m (λ i h. ap (λ (y : ℕ). has H i j * y) (none_only b i))

  all_small : (j : ℕ) → of_rows H.list H.rho rows t j ≤ 32
  unfolding set_votes
  all_small j = omega (arith, all-votes j, votes-weight H (bit_in b 0) (λ i. bit i) j, weight-small H ac j)
    where
      bit : (i : ℕ) → bit_in b 0 i ≤ 1
      bit i = omega (arith, bit-bit b 0 i)

  module _ (v new : List ℕ) (s : VotesOf H.n v) (e : new ≡ over (listed H.n no_votes) v) where
    -- has room in the array that has been cleared
    pub anew-room : Addable (of_rows H.list H.rho rows t) new
    anew-room =
        record {
          long = over-long H.n no_votes v new e (omega (arith, s.long, ac.sizes.n_most)) ∙ s.long;
          fits = λ j. omega (arith, cleared H.n v new s e j, all_small j);
        }

    -- and is the votes of the set
    pub anew : (v' : List ℕ) → More (of_rows H.list H.rho rows t) new v' → SetVotes H b v'
    anew v' m =
        record { long = m.long; each = λ j. omega (arith, m.each j, cleared H.n v new s e j, all-votes j) }
