-- Laws of samples whose guesses the table confirms.
--   sample-at           == sample j by its pattern
--   guesses-finite      == every sample is finite
--   table-first         == the table's second cell is a pattern up to infinity's
--   peak-small          == the largest level is a whole number that floats count
--   call-confirmed      == no guess is above the largest level
--   took_true           == what is written by the guesses is what the samples leave
--   took-false          == where a guess is not confirmed nothing is written
-- Assumes nothing.
use mathlib.Core.Path.{◌≡◌, refl, sym, ap, ap₂, ◌∙◌}
use mathlib.Core.Bool.{Bool, true, false, not, cond, ◌&&◌}
use mathlib.Core.List.{List}
use Prim.Native.Nat.{ℕ, zero, suc, ◌+◌, ◌-◌, ◌*◌, ◌/◌, ◌%◌, ◌≤◌, ◌<◌}
use native.Mathlib.Decide.{dec_lt}
use native.Mathlib.Omega.{arith}
use borrow.Author.Tests.{leb-true, ltb-true, not-true, not-false, lt-leb, le-leb, lt-ltb, le-ltb}
use lib.Dec.{T, leb, ltb, eqb}
use lib.IntN.{pos, neg_ℤ, nat_abs}
use lib.Ieee.{Float, nan, binary32, of_bits}
use lib.Ieee.Bits.{is_true}
use lib.Ieee.Scale.{finite}
use lib.ListN.{length, get_or}
use Rattle.counting.specs.Paper.Lists.{listed, over}
use Rattle.counting.specs.Paper.Search.{any_below}
use Rattle.counting.specs.Places.{at}
use Rattle.counting.proofs.Searches.{never, and_left, and_right, any-clear, first-none}
use Rattle.counting.proofs.Writes.{get_or-listed, listed-cong}
use Rattle.byte_numbers.specs.Paper.Numbers.{number32, float, sample_in, samples_in}
use Rattle.quantiser_levels.specs.Paper.Samples.{Setting, setting_fits, largest, negative, magnitude, signed, level_of, hard_of, hard_bit, not_finite, first_not_finite}
use Rattle.quantiser_settings.proofs.Ranges.{fits-reads, largest-most}
use Rattle.quantiser_bytes.proofs.Blocks.{samples-n}
use Rattle.iterative_levels.specs.Levels.{biased}
use Rattle.iterative_changed.specs.Paper.Changed.{decided}
use Rattle.iterative_changed.specs.Marks.{mark_of}
use Rattle.quantiser_table.specs.Least.{most_pattern, table_of}
use Rattle.quantiser_table.proofs.Patterns.{finite-below}
use Rattle.quantiser_table.proofs.Tables.{table-most, confirmed}
use Rattle.quantiser_guess.specs.Guess.{pattern_in, fits_at, misfit, kept_by, mark_by, bit_in, kept_in, mark_in, Guessed, Confirmed, Laid}
use Rattle.quantiser_guess.specs.Placed.{Took}
use Rattle.quantiser_guess.proofs.Floats.{finite-unsigned, magnitude-unsigned, negative-pattern, hard-pattern}

-- ---- one level by its sign and its magnitude

-- kept as R + L
kept-signed : (L u g : ℕ) → biased L (signed (leb 2147483648 u) g) ≡ kept_by L u g
unfolding kept_by
kept-signed L u g =
    elim (dec_lt u 2147483648) [
      | yes l ↦ rw (lt-leb 2147483648 u l, lt-ltb u 2147483648 l)
      | no ge ↦ rw (le-leb 2147483648 u (omega arith), le-ltb u 2147483648 (omega arith)) (minus g)
    ]
  where
    minus : (k : ℕ) → biased L (neg_ℤ (pos k)) ≡ L - k
    minus zero = omega arith
    minus (suc k) = refl

-- its mark
mark-signed : (s : Bool) (g z : ℕ) → mark_of (signed s g) z ≡ mark_by g z
unfolding mark_of decided mark_by
mark-signed s g z = ap (λ (k : ℕ). cond (not (eqb k 0)) z 2) (abs s g) ∙ turned (eqb g 0)
  where
    abs : (s : Bool) (k : ℕ) → nat_abs (signed s k) ≡ k
    abs true zero = refl
    abs true (suc k) = refl
    abs false k = refl

    turned : (b : Bool) → cond (not b) z 2 ≡ cond b 2 z
    turned true = refl
    turned false = refl

magnitude-most : (S : Setting) (x : Float) → magnitude S x ≤ largest S.bits
unfolding magnitude
magnitude-most S x = omega arith

-- ---- all samples

-- sample j by its pattern
pub sample-at : (n : ℕ) (bs : List ℕ) → length bs ≡ 4 * n → (j : ℕ) → j < n → get_or (samples_in bs) j nan ≡ of_bits binary32 (number32 bs (4 * j))
unfolding samples_in sample_in float
sample-at n bs whole j l = get_or-listed (length bs / 4) (sample_in bs) j nan (omega arith)

module _ (S : Setting) (fit : setting_fits S ≡ true) (n : ℕ) (bs gs : List ℕ) (whole : length bs ≡ 4 * n) (small : Guessed n gs)
    (ok : not (any_below (misfit (table_of S) bs gs) n) ≡ true) where
  sure : (j : ℕ) → j < n → (pattern_in bs j < most_pattern) × (magnitude S (of_bits binary32 (pattern_in bs j)) ≡ at gs j)
  unfolding misfit fits_at
  sure j l =
      let t = table_of S in
      let a = leb (at t (at gs j)) (pattern_in bs j) in
      let b = ltb (pattern_in bs j) (at t (at gs j + 1)) in
      let e : a && b ≡ true = not-false (a && b) (any-clear (misfit t bs gs) n (not-true _ ok) j l) in
      confirmed S fit (at gs j) (pattern_in bs j) (omega (arith, small.below j l)) (leb-true _ _ (and_left a b e)) (ltb-true _ _ (and_right a b e))

  pattern-finite : (j : ℕ) → j < n → T (finite (of_bits binary32 (number32 bs (4 * j) % 2147483648)))
  unfolding pattern_in
  pattern-finite j l = finite-below (pattern_in bs j) (sure j l).0

  sample-finite : (j : ℕ) → j < n → T (finite (of_bits binary32 (number32 bs (4 * j))))
  sample-finite j l = finite-unsigned (number32 bs (4 * j)) (pattern-finite j l)

  -- the magnitude of its level is the guess
  sample-magnitude : (j : ℕ) → j < n → magnitude S (of_bits binary32 (number32 bs (4 * j))) ≡ at gs j
  unfolding pattern_in
  sample-magnitude j l = magnitude-unsigned (number32 bs (4 * j)) (pattern-finite j l) S ∙ (sure j l).1

  -- no guess is above the largest level
  guesses-confirmed : Confirmed (largest S.bits) n gs
  guesses-confirmed =
      record {
        largest = largest-most S.bits (fits-reads S fit).most;
        within = λ j l. omega (arith, sample-magnitude j l, magnitude-most S (of_bits binary32 (number32 bs (4 * j))));
      }

  -- every sample is finite
  pub guesses-finite : first_not_finite (samples_in bs) ≡ length (samples_in bs)
  unfolding not_finite
  guesses-finite =
      let each : (j : ℕ) → j < length (samples_in bs) → not_finite (samples_in bs) j ≡ false =
      λ j l. let h : j < n = omega (arith, samples-n n bs whole) in
      ap not (ap finite (sample-at n bs whole j h) ∙ is_true _ (sample-finite j h)) in
      first-none (not_finite (samples_in bs)) (length (samples_in bs)) each

  -- the level of a sample by its pattern and the guess
  level-by-guess : (j : ℕ) → j < n → level_of S (get_or (samples_in bs) j nan) ≡ signed (leb 2147483648 (number32 bs (4 * j))) (at gs j)
  unfolding level_of
  level-by-guess j l =
      ap (λ (x : Float). signed (negative x) (magnitude S x)) (sample-at n bs whole j l)
      ∙ ap₂ signed (negative-pattern (number32 bs (4 * j)) (pattern-finite j l)) (sample-magnitude j l)

  bit_at : (j : ℕ) → j < n → bit_in bs j ≡ hard_bit (samples_in bs) j
  unfolding bit_in hard_bit
  bit_at j l = sym (ap hard_of (sample-at n bs whole j l) ∙ hard-pattern (number32 bs (4 * j)) (sample-finite j l))

  kept_at : (j : ℕ) → j < n → kept_in (largest S.bits) bs gs j ≡ biased (largest S.bits) (level_of S (get_or (samples_in bs) j nan))
  unfolding kept_in
  kept_at j l =
      sym (ap (biased (largest S.bits)) (level-by-guess j l) ∙ kept-signed (largest S.bits) (number32 bs (4 * j)) (at gs j))

  mark-at : (j : ℕ) → j < n → mark_in bs gs j ≡ mark_of (level_of S (get_or (samples_in bs) j nan)) (hard_bit (samples_in bs) j)
  unfolding mark_in
  mark-at j l =
      sym (mark-signed (leb 2147483648 (number32 bs (4 * j))) (at gs j) (bit_in bs j))
      ∙ ap₂ mark_of (sym (level-by-guess j l)) (bit_at j l)

  written : (f g : ℕ → ℕ) (old new : List ℕ) → ((j : ℕ) → j < n → f j ≡ g j) → new ≡ over (listed n f) old
      → new ≡ over (listed (length (samples_in bs)) g) old
  written f g old new h e =
      e ∙ ap (λ (l : List ℕ). over l old) (listed-cong n f g h ∙ ap (λ (k : ℕ). listed k g) (sym (samples-n n bs whole)))

  all_placed : {z z' x x' o o' : List ℕ} → Laid n (largest S.bits) bs gs z z' x x' o o' → Took S (samples_in bs) true z z' x x' o o'
  all_placed {z} {z'} {x} {x'} {o} {o'} w =
      record {
        finite = λ e. guesses-finite;
        placed = λ e. record {
          bits = written (bit_in bs) (hard_bit (samples_in bs)) z z' bit_at w.bits;
          kept = written (kept_in (largest S.bits) bs gs) (λ j. biased (largest S.bits) (level_of S (get_or (samples_in bs) j nan))) x x' kept_at w.kept;
          marks = written (mark_in bs gs) (λ j. mark_of (level_of S (get_or (samples_in bs) j nan)) (hard_bit (samples_in bs) j)) o o' mark-at w.marks;
        };
        same_bits = λ e. absurd (never e);
        same_kept = λ e. absurd (never e);
        same_marks = λ e. absurd (never e);
      }

-- ---- the same for a caller that knows the table and the largest level by other names

-- the table's second cell is a pattern up to infinity's
pub table-first : (S : Setting) {t : List ℕ} → t ≡ table_of S → at t 1 ≤ most_pattern
table-first S {t} e = rw e (table-most S 1)

-- the largest level is a whole number that floats count
pub peak-small : (S : Setting) {L : ℕ} → setting_fits S ≡ true → L ≡ largest S.bits → L ≤ 16777216
peak-small S {L} fit e = omega (arith, e, largest-most S.bits (fits-reads S fit).most)

module _ (S : Setting) {t : List ℕ} {L : ℕ} (fit : setting_fits S ≡ true) (et : t ≡ table_of S) (el : L ≡ largest S.bits) (n : ℕ) (bs gs : List ℕ)
    (whole : length bs ≡ 4 * n) (small : Guessed n gs) {r : Bool} (er : r ≡ not (any_below (misfit t bs gs) n)) (ok : r ≡ true) where
  by-table : not (any_below (misfit (table_of S) bs gs) n) ≡ true
  by-table = ap (λ (u : List ℕ). not (any_below (misfit u bs gs) n)) (sym et) ∙ sym er ∙ ok

  -- no guess is above the largest level
  pub call-confirmed : Confirmed L n gs
  call-confirmed = rw el (guesses-confirmed S fit n bs gs whole small by-table)

  -- what is written by the guesses is what the samples leave
  pub took_true : {z z' x x' o o' : List ℕ} → Laid n L bs gs z z' x x' o o' → Took S (samples_in bs) true z z' x x' o o'
  took_true w = all_placed S fit n bs gs whole small by-table (rw el at w)

-- where a guess is not confirmed nothing is written
pub took-false : (S : Setting) (xs : List Float) (z x o : List ℕ) → Took S xs false z z x x o o
took-false S xs z x o =
    record {
      finite = λ e. absurd (never (sym e));
      placed = λ e. absurd (never (sym e));
      same_bits = λ e. refl;
      same_kept = λ e. refl;
      same_marks = λ e. refl;
    }
