-- Laws of a block's samples that are taken by the exact rule.
--   taken_refused    == where a sample is not finite its place is answered and nothing is written
--   exact-fillable   == where all are finite their levels can be filled
--   exact-bounded    == the levels filled lie from -L to L, so they can be kept as numbers
--   taken-exact      == the bits, the levels kept as numbers and the marks are those of the samples
--   taken-guessed    == so they are where guesses are confirmed
--   takeable-after   == where they are not, the arrays may be lent on
--   taken-after      == and what is left then is left of the old ones
-- Assumes nothing.
use mathlib.Core.Path.{◌≡◌, refl, sym, ap, ap₂, ◌∙◌}
use mathlib.Core.Bool.{Bool, true, false}
use mathlib.Core.List.{List}
use Prim.Native.Nat.{ℕ, ◌≤◌, ◌<◌}
use native.Mathlib.Decide.{dec_lt}
use native.Mathlib.Omega.{arith}
use lib.IntN.{ℤ, pos}
use lib.Ieee.{Float, nan}
use lib.ListN.{length, get_or}
use lib.Seq.{ext_get_or}
use Rattle.counting.specs.Paper.Lists.{listed, over}
use Rattle.counting.specs.Places.{at}
use Rattle.counting.proofs.Writes.{length-listed, get_or-listed, listed-cong, length_over, get_or-over-new, over-long, over-at, over-rest}
use Rattle.byte_numbers.specs.Paper.Numbers.{samples_in}
use Rattle.byte_numbers.specs.Floats.{Sampled}
use Rattle.quantiser_levels.specs.Paper.Samples.{Setting, largest, level_of, levels_of, hard_bit, first_not_finite}
use Rattle.quantiser_settings.proofs.Ranges.{fits-reads, largest-most, level-bound}
use Rattle.quantiser_bytes.proofs.Blocks.{place-of, samples-n, all-finite}
use Rattle.quantiser.specs.Buffers.{Fillable, Filled}
use Rattle.iterative_levels.specs.Levels.{biased, Bounded, Biased}
use Rattle.iterative_changed.specs.Marks.{mark_of, marked_by}
use Rattle.quantiser_guess.specs.Placed.{Placed, Took}
use Rattle.program_samples.specs.Taken.{Takeable, Taken}

-- ---- cells

-- an array with the values of f at the front and the old ones behind is the old one written over
over-is : (n : ℕ) (f : ℕ → ℕ) (old new : List ℕ) → n ≤ length old → length new ≡ length old → ((j : ℕ) → j < n → at new j ≡ f j)
    → ((j : ℕ) → n ≤ j → at new j ≡ at old j) → new ≡ over (listed n f) old
over-is n f old new h long front rest =
    ext_get_or 0 new (over (listed n f) old) (long ∙ sym (over-long n f old (over (listed n f) old) refl h)) (λ j l. elim (dec_lt j n) [
      | yes g ↦ front j g ∙ sym (over-at n f old (over (listed n f) old) refl 0 j g)
      | no g ↦ rest j (omega arith) ∙ sym (over-rest n f old (over (listed n f) old) refl 0 j (omega arith))
    ])

module _ (S : Setting) (xs : List Float) (ls ls' : List ℤ) (e : ls' ≡ over (levels_of S xs) ls) where
  -- the level of sample j stands at place j
  level-at : (j : ℕ) → j < length xs → get_or ls' j (pos 0) ≡ level_of S (get_or xs j nan)
  unfolding levels_of
  level-at j l =
      let f : ℕ → ℤ = λ j. level_of S (get_or xs j nan) in
      ap (λ (x : List ℤ). get_or x j (pos 0)) e
      ∙ get_or-over-new (listed (length xs) f) ls j (pos 0) (omega (arith, length-listed (length xs) f))
      ∙ get_or-listed (length xs) f j (pos 0) l

  -- filling the levels leaves their buffer as long as it was
  levels-length : length xs ≤ length ls → length ls' ≡ length ls
  unfolding levels_of
  levels-length h =
      let f : ℕ → ℤ = λ j. level_of S (get_or xs j nan) in
      ap length e ∙ length_over (listed (length xs) f) ls (omega (arith, length-listed (length xs) f))

-- ---- a block by the exact rule

module _ (S : Setting) (n L : ℕ) (bs z x o : List ℕ) (p : Takeable S bs n L z x o) where
  module _ {old new : List Float} (r : ℕ) (s : Sampled bs old new r) where
    -- where a sample is not finite its place is answered and nothing is written
    pub taken_refused : r < n → Taken S bs n r z z x x o o
    taken_refused l =
        record {
          place = s.place ∙ place-of bs;
          placed = λ h. absurd (omega arith);
          kept_bits = λ h. refl;
          kept_levels = λ h. refl;
          kept_marks = λ h. refl;
        }

    module _ (l : n ≤ r) (xs : List Float) (ex : xs ≡ samples_in bs) where
      xs-long : length xs ≡ n
      xs-long = ap length ex ∙ samples-n n bs p.bytes

      -- where all are finite their levels can be filled
      pub exact-fillable : (ls : List ℤ) → length ls ≡ 1023 → Fillable S xs ls
      exact-fillable ls e =
          record {
            setting = p.setting;
            each_finite = ap first_not_finite ex ∙ all-finite n bs p.bytes r s.place l ∙ sym (ap length ex);
            few = omega (arith, xs-long, p.few);
            room = omega (arith, xs-long, p.few);
          }

      module _ (ls ls' : List ℤ) (long : length ls ≡ 1023) (z' : List ℕ) (f : Filled S xs ls ls' z z') where
        -- the levels filled lie from -L to L, so they can be kept as numbers
        pub exact-bounded : Bounded n L ls'
        exact-bounded =
            record {
              columns = p.few;
              room = omega (arith, p.few, levels-length S xs ls ls' f.levels (omega (arith, xs-long, p.few)));
              largest = omega (arith, p.middle, largest-most S.bits (fits-reads S p.setting).most);
              within = λ j h. rw (level-at S xs ls ls' f.levels j (omega (arith, xs-long)), p.middle) (level-bound S (get_or xs j nan));
            }

        -- the bits, the levels kept as numbers and the marks are those of the samples
        by-samples : (x' o' : List ℕ) → Biased n L ls' x x' → o' ≡ over (listed n (marked_by ls' (at z'))) o → Placed S xs z z' x x' o o'
        by-samples x' o' b m =
            let q : length xs ≡ n = xs-long in
            let level : (j : ℕ) → j < length xs → get_or ls' j (pos 0) ≡ level_of S (get_or xs j nan) = level-at S xs ls ls' f.levels in
            let kept_at : ℕ → ℕ = λ j. biased (largest S.bits) (level_of S (get_or xs j nan)) in
            let mark-at : ℕ → ℕ = λ j. mark_of (level_of S (get_or xs j nan)) (hard_bit xs j) in
            record {
              bits = over-is (length xs) (hard_bit xs) z z' (omega (arith, p.few, p.long_bits)) (f.long ∙ sym p.long_bits) f.each f.rest;
              kept = over-is (length xs) kept_at x x' (omega (arith, p.few, p.long_kept)) (b.long ∙ sym p.long_kept)
                  (λ j h. b.each j (omega arith) ∙ ap₂ biased p.middle (level j h)) (λ j h. b.rest j (omega arith));
              marks = m
                  ∙ ap (λ (a : List ℕ). over a o)
                  (listed-cong n (marked_by ls' (at z')) mark-at (λ j h. ap₂ mark_of (level j (omega arith)) (f.each j (omega arith)))
                  ∙ ap (λ (k : ℕ). listed k mark-at) (sym q));
            }

        pub taken-exact : {x' o' : List ℕ} → Biased n L ls' x x' → o' ≡ over (listed n (marked_by ls' (at z'))) o → Taken S bs n r z z' x x' o o'
        taken-exact {x'} {o'} b m =
            record {
              place = s.place ∙ place-of bs;
              placed = λ h. rw ex at (by-samples x' o' b m);
              kept_bits = λ h. absurd (omega arith);
              kept_levels = λ h. absurd (omega arith);
              kept_marks = λ h. absurd (omega arith);
            }

  -- ---- by guesses, or after them

  module _ {z' x' o' : List ℕ} {b : Bool} (t : Took S (samples_in bs) b z z' x x' o o') where
    -- so they are where guesses are confirmed
    pub taken-guessed : b ≡ true → Taken S bs n n z z' x x' o o'
    taken-guessed e =
        record {
          place = sym (t.finite e ∙ samples-n n bs p.bytes);
          placed = λ h. t.placed e;
          kept_bits = λ h. absurd (omega arith);
          kept_levels = λ h. absurd (omega arith);
          kept_marks = λ h. absurd (omega arith);
        }

    -- where they are not, the arrays may be lent on
    pub takeable-after : b ≡ false → Takeable S bs n L z' x' o'
    takeable-after e = rw (t.same_bits e, t.same_kept e, t.same_marks e) p

    -- and what is left then is left of the old ones
    pub taken-after : b ≡ false → {r : ℕ} {z'' x'' o'' : List ℕ} → Taken S bs n r z' z'' x' x'' o' o'' → Taken S bs n r z z'' x x'' o o''
    taken-after e k = rw (t.same_bits e, t.same_kept e, t.same_marks e) at k
